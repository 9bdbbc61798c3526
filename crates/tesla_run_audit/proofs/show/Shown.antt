-- A trace or a tail, listed by its format, and what is shown of it.
use Rattle.std.proofs.Common.{◌≡◌, ◌∙◌, ◌⊎◌, inl, inr, ℕ, true, false, ◌≤◌, ◌<◌, Option, Some, None, List, [], ◌∷◌, ◌++◌, length, refl, sym, ap, subst, arith, append_assoc}
use Rattle.tesla_capture.specs.Gathering.{Gathers}
use Rattle.tesla_desk.specs.Outside.{AppendsPrefix, after_bytes, with_bytes}
use Rattle.tesla_desk.proofs.Told.{prefix_after, with_bytes_twice}
use Rattle.tesla_front.specs.OutcomeView.{Done}
use Rattle.tesla_front.specs.Printing.{IsFault}
use Rattle.tesla_records.specs.Records.{Outline, parsed_head, outline_of}
use Rattle.tesla_records.specs.Steps.{Progress, pending, ahead as ahead_of}
use Rattle.tesla_records.specs.Taken.{HoldsNoRefusal, IsAtMostCut}
use Rattle.tesla_records.specs.declared.refusal.Refusal.{Refusal}
use Rattle.tesla_records.specs.declared.refusal.Refusal.TheVariants.{BadHead, Truncated}
use Rattle.tesla_trace.specs.Parsing.{parse_head}
use Rattle.tesla_trace.specs.Grammar.{tail, trace}
use Rattle.tesla_trace.specs.declared.kind.EntryFault.{EntryFault}
use Rattle.tesla_trace.specs.declared.kind.TraceKind.{TraceKind}
use Rattle.tesla_trace.specs.declared.kind.TraceKind.TheVariants as kinds
use Rattle.tesla_trace.proofs.TraceIs.{tail_is, trace_is}
use Rattle.tesla_audit.specs.Steps.{kind_of}
use Rattle.tesla_run_audit.specs.show.Lines.{entry_line}
use Rattle.tesla_run_audit.specs.show.Numbered.{IsListed, file_lines, outline_lines}
use Rattle.tesla_run_audit.specs.show.Show.{end_by, fault_by, refused_outcome, show_end, show_text, tail_first, text_by, trace_first}
use Rattle.tesla_run_audit.specs.show.Steps.{IsListedBy, IsShownBy, Lists, PutsText, ShowsTo, bad_head, is_headless}
use Rattle.tesla_run_audit.specs.declared.show.listing.Listed.{Listed}
use Rattle.tesla_run_audit.specs.declared.show.listing.Listed.TheVariants as listed
use Rattle.tesla_run_audit.proofs.show.Heads.{head_more, head_sized, headless}

-- ---- what is shown, told whether the head is that of a trace

is_text : (bytes : List ℕ) (told : Option ℕ) → parsed_head (parse_head bytes) ≡ told → show_text bytes ≡ text_by told bytes
unfolding show_text
is_text bytes told e = ap (λ (t : Option ℕ). text_by t bytes) e

is_end : (bytes : List ℕ) (told : Option ℕ) → parsed_head (parse_head bytes) ≡ told → show_end bytes ≡ end_by (fault_by told bytes)
unfolding show_end
is_end bytes told e = ap (λ (t : Option ℕ). end_by (fault_by t bytes)) e

-- what comes of a place is no fault
end_sound : (fault : Option (ℕ × Refusal EntryFault)) → IsFault (end_by fault) → ⊥
end_sound None is = is
end_sound (Some fault) is = is

pub show_end_sound : (bytes : List ℕ) → IsFault (show_end bytes) → ⊥
unfolding show_end
show_end_sound bytes is = end_sound (fault_by (parsed_head (parse_head bytes)) bytes) is

-- it is the end, or a refused place
end_is : (fault : Option (ℕ × Refusal EntryFault)) → (end_by fault ≡ Done []) ⊎ ((offset : ℕ) × (kind : TraceKind) × (end_by fault ≡ refused_outcome offset kind))
end_is None = inl refl
end_is (Some fault) = inr (fault.0, kind_of fault.1, refl)

pub show_end_is : (bytes : List ℕ) → (show_end bytes ≡ Done []) ⊎ ((offset : ℕ) × (kind : TraceKind) × (show_end bytes ≡ refused_outcome offset kind))
unfolding show_end
show_end_is bytes = end_is (fault_by (parsed_head (parse_head bytes)) bytes)

-- a file without the head of a trace has no lines as one, and without that of a tail none as that
no_trace : (bytes : List ℕ) → parsed_head (parse_head bytes) ≡ None → file_lines trace entry_line trace_first bytes ≡ []
no_trace bytes e = ap (outline_lines entry_line trace_first) (headless trace trace_is bytes e)

no_tail : (bytes : List ℕ) → parsed_head (tail.parse_head bytes) ≡ None → file_lines tail entry_line tail_first bytes ≡ []
no_tail bytes e = ap (outline_lines entry_line tail_first) (headless tail tail_is bytes e)

-- the bytes of no head of a trace that may go on as one are too few for a tail's
no_prefix : (text more : List ℕ) → text ++ more ≡ [] → text ≡ []
no_prefix [] more e = refl
no_prefix (b ∷ text) more e = absurd cc

uncut : (bytes : List ℕ) → parsed_head (parse_head bytes) ≡ None → IsAtMostCut (outline_of trace bytes).fault → ⊥
uncut bytes e cut =
    let is : IsAtMostCut (Some (0, BadHead)) = subst (λ (o : Outline ℕ _ EntryFault). IsAtMostCut o.fault) (headless trace trace_is bytes e) cut in
    let no : BadHead ≡ Truncated = is in cc

awaits : (bytes : List ℕ) → HoldsNoRefusal trace bytes → parsed_head (parse_head bytes) ≡ None → length bytes < 6
awaits bytes (inl part) e = trace_is.head_awaits bytes part
awaits bytes (inr cut) e = absurd (uncut bytes e cut)

tail_parsed : (bytes : List ℕ) (told : Option ℕ) → parsed_head (tail.parse_head bytes) ≡ told → length bytes < 6 → parsed_head (tail.parse_head bytes) ≡ None
tail_parsed bytes None e few = e
tail_parsed bytes (Some first) e few = let sized : 13 ≤ length bytes = head_sized tail tail_is bytes first e in absurd (omega (arith, sized, few))

-- ---- a trace

-- a file that was listed as a trace, and isn't refused for its head, is shown so
trace_by : (bytes : List ℕ) (told : Option ℕ) (fault : Option (ℕ × Refusal EntryFault)) (text : List ℕ) → parsed_head (parse_head bytes) ≡ told → IsListed trace entry_line trace_first bytes fault text → (fault ≡ Some (0, BadHead) → ⊥) → (text ≡ show_text bytes) × (show_end bytes ≡ end_by fault)
trace_by bytes (Some ingests) fault text e is other = (is.text_is ∙ sym (is_text bytes (Some ingests) e), is_end bytes (Some ingests) e ∙ ap end_by is.fault_is)
trace_by bytes None fault text e is other = absurd (other (sym is.fault_is ∙ ap (λ (o : Outline ℕ _ EntryFault). o.fault) (headless trace trace_is bytes e)))

-- the lines of a trace so far are those of the file so far
trace_part : (bytes : List ℕ) (told : Option ℕ) (text more : List ℕ) → parsed_head (parse_head bytes) ≡ told → file_lines trace entry_line trace_first bytes ≡ text ++ more → (rest : List ℕ) × (show_text bytes ≡ text ++ rest)
trace_part bytes (Some ingests) text more e is = (more, is_text bytes (Some ingests) e ∙ is)
trace_part bytes None text more e is =
    let none : text ≡ [] = no_prefix text more (sym is ∙ no_trace bytes e) in
    (show_text bytes, ap (λ (t : List ℕ). t ++ show_text bytes) (sym none))

-- what was read of it, too
trace_read : (read : List ℕ) (told : Option ℕ) → parsed_head (parse_head read) ≡ told → HoldsNoRefusal trace read → file_lines trace entry_line trace_first read ≡ show_text read
trace_read read (Some ingests) e none = sym (is_text read (Some ingests) e)
trace_read read None e none =
    no_trace read e ∙ sym (no_tail read (tail_parsed read (parsed_head (tail.parse_head read)) refl (awaits read none e))) ∙ sym (is_text read None e)

-- ---- a tail

-- a file without the head of a trace that was listed as a tail is shown so
tail_by : (bytes : List ℕ) (fault : Option (ℕ × Refusal EntryFault)) (text : List ℕ) → parsed_head (parse_head bytes) ≡ None → IsListed tail entry_line tail_first bytes fault text → (text ≡ show_text bytes) × (show_end bytes ≡ end_by fault)
tail_by bytes fault text e is = (is.text_is ∙ sym (is_text bytes None e), is_end bytes None e ∙ ap end_by is.fault_is)

-- what was read of a file without the head of a trace has none
still_none : (read rest : List ℕ) (told : Option ℕ) → parsed_head (parse_head read) ≡ told → parsed_head (parse_head (read ++ rest)) ≡ None → parsed_head (parse_head read) ≡ None
still_none read rest None e none = e
still_none read rest (Some ingests) e none = absurd (let no : None ≡ Some ingests = sym none ∙ head_more trace trace_is read rest ingests e in cc)

-- ---- what a file was listed to

same_some : (a b : ℕ × Refusal EntryFault) → Some a ≡ Some b → a ≡ b
same_some a b e = cc

-- a refused place of another kind isn't its head
kind_never : (kind : TraceKind) (offset at : ℕ) (refusal : Refusal EntryFault) → kind ≡ kind_of refusal → (kind ≡ kinds.BadHead → ⊥) → ◌≡◌ {A = Option (ℕ × Refusal EntryFault)} (Some (offset, refusal)) (Some (at, BadHead)) → ⊥
kind_never kind offset at refusal is other e =
    let pair : ◌≡◌ {A = ℕ × Refusal EntryFault} (offset, refusal) (at, BadHead) = same_some (offset, refusal) (at, BadHead) e in
    other (is ∙ ap (λ (p : ℕ × Refusal EntryFault). kind_of p.1) pair)

none_never : (at : ℕ) → ◌≡◌ {A = Option (ℕ × Refusal EntryFault)} None (Some (at, BadHead)) → ⊥
none_never at e = cc

-- the file was a trace
pub shown_trace : (told : Listed) (bytes : List ℕ) (ahead left : Option (List ℕ)) (text : List ℕ) → ((offset : ℕ) → told ≡ listed.Refused offset kinds.BadHead → ⊥) → IsListedBy trace entry_line trace_first kind_of told bytes ahead left text → IsShownBy told bytes left text
shown_trace listed.End bytes ahead left text other is = trace_by bytes (parsed_head (parse_head bytes)) None text refl is (none_never 0)
shown_trace (listed.Refused offset kind) bytes ahead left text other is =
    let never : kind ≡ kinds.BadHead → ⊥ = λ e. other offset (ap (λ (k : TraceKind). listed.Refused offset k) e) in
    let it = trace_by bytes (parsed_head (parse_head bytes)) (Some (offset, is.refusal)) text refl is.listed (kind_never kind offset 0 is.refusal is.kind_is never) in
    (it.0, it.1 ∙ ap (refused_outcome offset) (sym is.kind_is))
shown_trace listed.ReadFault bytes ahead left text other is =
    (is.read, is.rest, is.left_is, is.parts, inl is.none, is.text_is ∙ trace_read is.read (parsed_head (parse_head is.read)) refl is.none)
shown_trace listed.WriteFault bytes ahead left text other is = trace_part bytes (parsed_head (parse_head bytes)) text is.0 refl is.1

-- the file was no trace, and was read as a tail
pub shown_tail : (told : Listed) (bytes : List ℕ) (ahead left : Option (List ℕ)) (text : List ℕ) → parsed_head (parse_head bytes) ≡ None → IsListedBy tail entry_line tail_first kind_of told bytes ahead left text → IsShownBy told bytes left text
shown_tail listed.End bytes ahead left text none is = tail_by bytes None text none is
shown_tail (listed.Refused offset kind) bytes ahead left text none is =
    let it = tail_by bytes (Some (offset, is.refusal)) text none is.listed in
    (it.0, it.1 ∙ ap (refused_outcome offset) (sym is.kind_is))
shown_tail listed.ReadFault bytes ahead left text none is =
    let here : parsed_head (parse_head is.read) ≡ None = still_none is.read is.rest (parsed_head (parse_head is.read)) refl (subst (λ (b : List ℕ). parsed_head (parse_head b) ≡ None) is.parts none) in
    (is.read, is.rest, is.left_is, is.parts, inr is.none, is.text_is ∙ sym (is_text is.read None here))
shown_tail listed.WriteFault bytes ahead left text none is = (is.0, is_text bytes None none ∙ is.1)

-- ---- what was put

gathers_both : (first before now : Option (List ℕ)) (held rest a b : List ℕ) → Gathers first before held a → Gathers before now rest (held ++ b) → Gathers first now rest (a ++ b)
gathers_both first before now held rest a b one two = record {
  done = one.done ++ two.done;
  written = two.written ∙ ap (λ (w : Option (List ℕ)). with_bytes w two.done) one.written ∙ with_bytes_twice first one.done two.done;
  both = ap (λ (t : List ℕ). t ++ b) one.both ∙ append_assoc one.done held b ∙ ap (λ (t : List ℕ). one.done ++ t) two.both ∙ sym (append_assoc one.done two.done rest);
}

-- one text was put behind another
pub puts_both : (told : Listed) (first before now : Option (List ℕ)) (held rest a b : List ℕ) → Gathers first before held a → PutsText told before now rest (held ++ b) → PutsText told first now rest (a ++ b)
puts_both listed.End first before now held rest a b one two = gathers_both first before now held rest a b one two
puts_both (listed.Refused offset kind) first before now held rest a b one two = gathers_both first before now held rest a b one two
puts_both listed.ReadFault first before now held rest a b one two = gathers_both first before now held rest a b one two
puts_both listed.WriteFault first before now held rest a b one two =
    let parts : one.done ++ (held ++ b) ≡ a ++ b = sym (append_assoc one.done held b) ∙ ap (λ (t : List ℕ). t ++ b) (sym one.both) in
    subst (λ (t : List ℕ). AppendsPrefix first now t) parts (prefix_after first before now one.done (held ++ b) one.written two)

-- the file was listed as a trace, before which nothing was held
pub shows_trace : (told : Listed) (before ahead left written now : Option (List ℕ)) (held rest : List ℕ) → held ≡ [] → ((offset : ℕ) → told ≡ listed.Refused offset kinds.BadHead → ⊥) → Lists trace entry_line trace_first kind_of told before ahead left written now held rest → ShowsTo told before left written now rest
shows_trace told before ahead left written now held rest none other lists = record {
  text = lists.text;
  puts = subst (λ (h : List ℕ). PutsText told written now rest (h ++ lists.text)) none lists.puts;
  is = λ bytes e. shown_trace told bytes ahead left lists.text other (lists.is bytes e);
}

-- it was no trace, and then listed as a tail
pub shows_tail : (offset : ℕ) (told : Listed) (before middle ahead left_then left written between now : Option (List ℕ)) (held waiting rest : List ℕ) → held ≡ []
    → Lists trace entry_line trace_first kind_of (listed.Refused offset kinds.BadHead) before middle left_then written between held waiting
    → Lists tail entry_line tail_first kind_of told middle ahead left between now waiting rest → ShowsTo told before left written now rest
shows_tail offset told before middle ahead left_then left written between now held waiting rest none first second = record {
  text = first.text ++ second.text;
  puts = puts_both told written between now waiting rest first.text second.text (subst (λ (h : List ℕ). Gathers written between waiting (h ++ first.text)) none first.puts) second.puts;
  is = λ bytes e.
      let no = (first.is bytes e).headless refl in
      let text : second.text ≡ first.text ++ second.text = ap (λ (t : List ℕ). t ++ second.text) (sym no.2) in
      subst (λ (t : List ℕ). IsShownBy told bytes left t) text (shown_tail told bytes ahead left second.text no.0 (second.is bytes no.1));
}

-- what came is a refused head
kind_bad : (kind : TraceKind) → bad_head kind ≡ true → kind ≡ kinds.BadHead
kind_bad kinds.BadHead e = refl
kind_bad kinds.BadKind e = absurd cc
kind_bad kinds.Truncated e = absurd cc
kind_bad kinds.TooLong e = absurd cc
kind_bad kinds.TooLarge e = absurd cc
kind_bad kinds.BadCode e = absurd cc

pub headless_is : (told : Listed) → is_headless told ≡ true → (offset : ℕ) × (told ≡ listed.Refused offset kinds.BadHead)
headless_is listed.End e = absurd cc
headless_is (listed.Refused offset kind) e = (offset, ap (λ (k : TraceKind). listed.Refused offset k) (kind_bad kind e))
headless_is listed.ReadFault e = absurd cc
headless_is listed.WriteFault e = absurd cc

headless_not : (told : Listed) (offset : ℕ) → is_headless told ≡ false → told ≡ listed.Refused offset kinds.BadHead → ⊥
headless_not told offset e is = let no : false ≡ true = sym e ∙ ap is_headless is in cc

-- of a new reader all of the file is ahead
ahead_new : (reader : Progress ℕ) (left : Option (List ℕ)) → pending reader ≡ [] → ahead_of reader left ≡ left
ahead_new reader None none = refl
ahead_new reader (Some bytes) none = ap (λ (p : List ℕ). Some (p ++ bytes)) none

-- an open file was listed as a trace by a new reader
pub trace_shown : (told : Listed) (reader : Progress ℕ) (source ahead left written now : Option (List ℕ)) (held rest : List ℕ) → pending reader ≡ [] → held ≡ [] → is_headless told ≡ false
    → Lists trace entry_line trace_first kind_of told (ahead_of reader source) ahead left written now held rest → ShowsTo told source left written now rest
trace_shown told reader source ahead left written now held rest new none other lists =
    shows_trace told source ahead left written now held rest none (λ offset e. headless_not told offset other e)
    (subst (λ (b : Option (List ℕ)). Lists trace entry_line trace_first kind_of told b ahead left written now held rest) (ahead_new reader source new) lists)

-- it was none, and was listed as a tail by a reader of what was ahead then
pub tail_shown : (first told : Listed) (reader middle tail_reader : Progress ℕ) (source left_then ahead left written between now : Option (List ℕ)) (held waiting rest : List ℕ) → pending reader ≡ [] → held ≡ [] → is_headless first ≡ true → pending tail_reader ≡ pending middle
    → Lists trace entry_line trace_first kind_of first (ahead_of reader source) (ahead_of middle left_then) left_then written between held waiting
    → Lists tail entry_line tail_first kind_of told (ahead_of tail_reader left_then) ahead left between now waiting rest → ShowsTo told source left written now rest
tail_shown first told reader middle tail_reader source left_then ahead left written between now held waiting rest new none bad same one two =
    let it = headless_is first bad in
    let begin : Lists trace entry_line trace_first kind_of (listed.Refused it.0 kinds.BadHead) source (ahead_of middle left_then) left_then written between held waiting =
    subst (λ (f : Listed). Lists trace entry_line trace_first kind_of f source (ahead_of middle left_then) left_then written between held waiting) it.1
    (subst (λ (b : Option (List ℕ)). Lists trace entry_line trace_first kind_of first b (ahead_of middle left_then) left_then written between held waiting) (ahead_new reader source new) one) in
    let behind : Lists tail entry_line tail_first kind_of told (ahead_of middle left_then) ahead left between now waiting rest =
    subst (λ (p : List ℕ). Lists tail entry_line tail_first kind_of told (after_bytes p left_then) ahead left between now waiting rest) same two in
    shows_tail it.0 told source (ahead_of middle left_then) ahead left_then left written between now held waiting rest none begin behind
