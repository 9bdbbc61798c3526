-- What is read of the heads and entries of traces and of tails is their one spelling, and what was told of some bytes stays so, whatever follows them.
use Rattle.std.proofs.Common.{◌≡◌, ℕ, ◌-◌, ◌<◌, ◌≤◌, ◌^◌, List, [], ◌∷◌, ◌++◌, length, take, refl, ap, subst, ◌∙◌, arith}
use Rattle.std.specs.Prelude.{codes}
use Rattle.std.proofs.lemmas.List.{length-append, take_at}
use Rattle.tesla_base.specs.Prefix.{AreBytes}
use Rattle.tesla_records.specs.Grammar.{Awaits, Whole, Bad, ParsedHead, Grammar, IsGrammar}
use Rattle.tesla_receiver.specs.Entries.{Entry}
use Rattle.tesla_trace.specs.declared.kind.EntryFault.{EntryFault}
use Rattle.tesla_trace.specs.Parsing.{Part, Short, Wrong, Read, byte_part, entry_part, parse_of, parse_entry, parse_ingests, parse_head, parse_first, parse_tail}
use Rattle.tesla_trace.specs.Grammar.{IsTraceEntry, tail, trace}
use Rattle.tesla_trace.specs.Trace.{entry_text, tail_head, trace_head}
use Rattle.tesla_trace.proofs.Heads.{AreHeads, magic_then, ingests_are, first_are}
use Rattle.tesla_trace.proofs.Steady.{entry_steady, entry_by_steady}
use Rattle.tesla_trace.proofs.Spelled.{entry_takes, entry_again}

-- ---- entries

parsed_awaits : (had : ℕ) (o : Part Entry) → parse_of had o ≡ Awaits → o ≡ Short
parsed_awaits had Short e = refl
parsed_awaits had (Wrong fault) e = absurd cc
parsed_awaits had (Read x) e = absurd cc

parsed_bad : (had : ℕ) (o : Part Entry) (fault : EntryFault) → parse_of had o ≡ Bad fault → o ≡ Wrong fault
parsed_bad had Short fault e = absurd cc
parsed_bad had (Wrong other) fault e = cc
parsed_bad had (Read x) fault e = absurd cc

pub parsed_whole : (had : ℕ) (o : Part Entry) (it : Entry) (size : ℕ) → parse_of had o ≡ Whole it size → (x : Entry × List ℕ) × (o ≡ Read x) × (x.0 ≡ it) × (had - length x.1 ≡ size)
parsed_whole had Short it size e = absurd cc
parsed_whole had (Wrong fault) it size e = absurd cc
parsed_whole had (Read x) it size e = (x, refl, cc, cc)

pub entry_some : (bytes : List ℕ) (x : Entry × List ℕ) → entry_part bytes ≡ Read x → length x.1 < length bytes
unfolding entry_part byte_part
entry_some [] x e = absurd cc
entry_some (kind ∷ bytes) x e = omega (arith, ((entry_by_steady kind).read bytes [] x e).1)

-- a whole entry
record IsWholeEntry (bytes more : List ℕ) (it : Entry) (size : ℕ) : Type 0 where
  again : parse_entry (bytes ++ more) ≡ Whole it size
  spelled : AreBytes bytes → take size bytes ≡ entry_text it
  there : size ≤ length bytes
  some : 1 ≤ size
  limits : AreBytes bytes → IsTraceEntry it

entry_whole : (bytes more : List ℕ) (it : Entry) (size : ℕ) → parse_entry bytes ≡ Whole it size → IsWholeEntry bytes more it size
unfolding parse_entry
entry_whole bytes more it size e =
    let w = parsed_whole (length bytes) (entry_part bytes) it size e in
    let x = w.0 in
    let r = entry_steady.read bytes more x w.1 in
    let fewer = entry_some bytes x w.1 in
    let same : length (bytes ++ more) - length (x.1 ++ more) ≡ size = omega (arith, w.3, fewer, length-append bytes more, length-append x.1 more) in
    let text_is : AreBytes bytes → take size bytes ≡ entry_text it = λ are.
    let t = (entry_takes bytes x are w.1).0 in
    ap (λ (b : List ℕ). take size b) t.parts ∙ take_at (entry_text x.0) x.1 size (omega (arith, w.3, ap (λ (b : List ℕ). length b) t.parts, length-append (entry_text x.0) x.1)) ∙ ap entry_text w.2 in
    record {
      again = ap (parse_of (length (bytes ++ more))) r.0 ∙ ap (λ (n : ℕ). Whole x.0 n) same ∙ ap (λ (one : Entry). Whole one size) w.2;
      spelled = text_is;
      there = omega (arith, w.3);
      some = omega (arith, w.3, fewer);
      limits = λ are. subst (λ (one : Entry). IsTraceEntry one) w.2 (entry_takes bytes x are w.1).1;
    }

entry_read : (it : Entry) (more : List ℕ) → IsTraceEntry it → parse_entry (entry_text it ++ more) ≡ Whole it (length (entry_text it))
unfolding parse_entry
entry_read it more fits =
    ap (parse_of (length (entry_text it ++ more))) (entry_again it more fits) ∙ ap (λ (n : ℕ). Whole it n) (omega (arith, length-append (entry_text it) more))

entry_awaits : (bytes : List ℕ) → parse_entry bytes ≡ Awaits → length bytes < 2070
unfolding parse_entry
entry_awaits bytes e = entry_steady.short bytes (parsed_awaits (length bytes) (entry_part bytes) e)

entry_bad : (bytes more : List ℕ) (fault : EntryFault) → parse_entry bytes ≡ Bad fault → parse_entry (bytes ++ more) ≡ Bad fault
unfolding parse_entry
entry_bad bytes more fault e =
    ap (parse_of (length (bytes ++ more))) (entry_steady.wrong bytes more fault (parsed_bad (length bytes) (entry_part bytes) fault e))

nothing : parse_entry [] ≡ Awaits
unfolding parse_entry entry_part byte_part
nothing = refl

-- a grammar of these heads, whose records are entries
abbrev entries_behind : (ℕ → List ℕ) → (ℕ → Type 0) → ℕ → (List ℕ → ParsedHead ℕ) → Grammar
entries_behind text Is size prefix = record {
  Head = ℕ;
  head_text = text;
  IsHead = Is;
  head_size = size;
  parse_head = prefix;
  Record = Entry;
  record_text = entry_text;
  IsRecord = IsTraceEntry;
  longest = 2070;
  Kind = EntryFault;
  parse = parse_entry;
}

entries_are : (text : ℕ → List ℕ) (Is : ℕ → Type 0) (size : ℕ) (prefix : List ℕ → ParsedHead ℕ) → 1 ≤ size → size < 4096 → AreHeads text Is size prefix → IsGrammar (entries_behind text Is size prefix)
entries_are text Is size prefix some small heads = record {
  head_some = some;
  head_few = small;
  head_awaits = heads.awaits;
  head_is = heads.is;
  head_limits = heads.limits;
  head_none = heads.none;
  head_read = heads.read;
  few = omega arith;
  none = nothing;
  awaits = entry_awaits;
  whole = λ bytes more it size e. let w = entry_whole bytes more it size e in (w.again, w.spelled, w.there, w.some);
  limits = λ bytes it size are e. (entry_whole bytes [] it size e).limits are;
  bad = entry_bad;
  read = entry_read;
}

pub trace_is : IsGrammar trace
unfolding parse_head
trace_is = entries_are trace_head (λ ingests. (1 ≤ ingests) × (ingests ≤ 32)) 6 parse_head (omega arith) (omega arith) (magic_then (codes "TTRC" ++ 1 ∷ []) _ _ 1 parse_ingests ingests_are)

pub tail_is : IsGrammar tail
unfolding parse_tail
tail_is = entries_are tail_head (λ first. first < 2 ^ 64) 13 parse_tail (omega arith) (omega arith) (magic_then (codes "TTAL" ++ 1 ∷ []) _ _ 8 parse_first first_are)
