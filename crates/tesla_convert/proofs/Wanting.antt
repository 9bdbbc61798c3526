-- What is written where memory was wanting.
use Rattle.std.proofs.Common.{◌≡◌, ◌∙◌, ℕ, Option, Some, None, Result, Ok, Err, List, [], ◌∷◌, ◌++◌, refl, sym, ap, subst, append_assoc, append-nil}
use Rattle.tesla_capture.specs.Grammar.{Grammar}
use Rattle.tesla_capture.specs.Formats.{IsGrammar}
use Rattle.tesla_capture.specs.Records.{Outline, Recorded, outline_at, outline_of, with_record, with_records}
use Rattle.tesla_capture.specs.Steps.{GivesRecord}
use Rattle.tesla_capture.proofs.OutlineStep.{one_step}
use Rattle.tesla_capture.proofs.Taken.{taken_outline}
use Rattle.tesla_desk.specs.Outside.{with_bytes}
use Rattle.tesla_convert.specs.Held.{HoldsText}
use Rattle.tesla_convert.specs.Records.{Answers}
use Rattle.tesla_convert.specs.Rule.{Made, Rule, Unread, made_of}
use Rattle.tesla_convert.specs.Steps.{IsAt, IsAtEnd, IsWanting, RecordsTo, Settles, ending_at}
use Rattle.tesla_convert.specs.declared.conversion.Ending.{Ending}
use Rattle.tesla_convert.specs.declared.conversion.Ending.TheVariants as endings
use Rattle.tesla_convert.specs.declared.conversion.Stopped.{Stopped}
use Rattle.tesla_convert.specs.declared.conversion.Stopped.TheVariants as stops
use Rattle.tesla_convert.specs.declared.converter.Converted.{Converted}
use Rattle.tesla_convert.specs.declared.converter.Converted.TheVariants.{Whole, Refused, WriteFault, NoMemory}
use Rattle.tesla_convert.proofs.Held.{holds_flushed}

-- the conversion stops so only at a record at which memory was wanting
pub wanted_at : {Kind : Type 0} (offset : ℕ) (converted : Converted Kind) (result : Result (Option (Ending Kind)) Stopped) → result ≡ ending_at offset converted → result ≡ Err stops.Memory → converted ≡ NoMemory
wanted_at offset Whole result here is = absurd (let no = sym here ∙ is in cc)
wanted_at offset (Refused kind) result here is = absurd (let no = sym here ∙ is in cc)
wanted_at offset WriteFault result here is = absurd (let no = sym here ∙ is in cc)
wanted_at offset NoMemory result here is = refl

-- what stopped one conversion is what stopped another
pub stopped_so : {A B : Type 0} (one other : Stopped) → ◌≡◌ {A = Result A Stopped} (Err one) (Err other) → ◌≡◌ {A = Result B Stopped} (Err one) (Err other)
stopped_so one other is = let same : one ≡ other = cc in ap (λ (s : Stopped). Err s) same

module _ (G : Grammar) (Kind : Type 0) (Wants : List G.Record → Option G.Record → List ℕ → Type 0) where
  -- a piece more was written behind what was held
  piece_written : (before written : Option (List ℕ)) (held text piece : List ℕ) → HoldsText before held text → written ≡ with_bytes before (held ++ piece) → HoldsText written [] (text ++ piece)
  piece_written before written held text piece holds all =
      let both : HoldsText before (held ++ piece) (text ++ piece) = λ done told. sym (append_assoc done held piece) ∙ ap (λ t. t ++ piece) (holds done told) in
      holds_flushed before written (held ++ piece) (text ++ piece) both all

  -- memory was wanting at a record
  pub wanting_next : (is : IsGrammar G) (rule : Rule G Kind) (Had Has : List G.Record → Type 0) (bytes : List ℕ) (offset now : ℕ) (ahead left before written : Option (List ℕ)) (held rest : List ℕ) (first : G.Record) (converted : Converted Kind)
      → (at : IsAt G Kind rule Had bytes offset ahead before held) → GivesRecord G first offset at.rest now left → Answers G rule Has at.records first converted before written held rest → converted ≡ NoMemory
      → Wants at.records (Some first) (rule.adds at.records first) → IsWanting G Kind rule Wants bytes written
  wanting_next is rule Had Has bytes offset now ahead left before written held rest first converted at gives answers wanting wants =
      let answered : Answers G rule Has at.records first NoMemory before written held rest = subst (λ (c : Converted Kind). Answers G rule Has at.records first c before written held rest) wanting answers in
      let others = outline_at G now gives.0 in
      let outline : outline_at G offset at.rest ≡ with_record first others = one_step G is offset at.rest (Recorded first now gives.0) gives.2 in
      let here : made_of G Kind rule Unread 5 [] at.records ≡ record { text = at.text ++ []; refused = None } = ap (λ (rs : List G.Record). made_of G Kind rule Unread 5 [] rs) (sym (append-nil at.records)) ∙ at.passed Unread [] in
      let text : at.text ≡ (made_of G Kind rule Unread 5 [] at.records).text = sym (append-nil at.text) ∙ sym (ap (λ (m : Made Kind). m.text) here) in
      record {
        records = at.records;
        next = Some first;
        piece = rule.adds at.records first;
        stands = (
          others.records,
          ap (λ (o : Outline G.Record). o.records) (taken_outline G is bytes at.records offset at.rest at.taken ∙ ap (with_records at.records) outline),
        );
        wants = wants;
        holds = subst (λ (t : List ℕ). HoldsText written [] (rule.begins ++ t ++ rule.adds at.records first)) text
            (piece_written before written held (rule.begins ++ at.text) (rule.adds at.records first) at.holds answered.2);
      }

  -- memory was wanting at the end
  wanting_last : (rule : Rule G Kind) (Has : List G.Record → Type 0) (bytes : List ℕ) (before written : Option (List ℕ)) (held piece : List ℕ)
      → (at : IsAtEnd G Kind rule Has bytes before held) → Wants (outline_of G bytes).records None piece → written ≡ with_bytes before (held ++ piece) → IsWanting G Kind rule Wants bytes written
  wanting_last rule Has bytes before written held piece at wants all = record {
    records = (outline_of G bytes).records;
    next = None;
    piece = piece;
    stands = (refl, at.whole);
    wants = wants;
    holds = subst (λ (t : List ℕ). HoldsText written [] (t ++ piece)) at.text_is (piece_written before written held at.text piece at.holds all);
  }

  -- what was converted by a rule was by one that is the same
  pub wanting_same : (rule same : Rule G Kind) (bytes : List ℕ) (written : Option (List ℕ)) → rule ≡ same → IsWanting G Kind rule Wants bytes written → IsWanting G Kind same Wants bytes written
  wanting_same rule same bytes written e wanting = subst (λ (r : Rule G Kind). IsWanting G Kind r Wants bytes written) e wanting

  -- the records ended with the file, and memory was wanting at the end
  pub wanting_end : (rule : Rule G Kind) (Has : List G.Record → Type 0) (ending : Ending Kind) (bytes : List ℕ) (left before written : Option (List ℕ)) (held : List ℕ) → ending ≡ endings.End → RecordsTo G Kind rule Has (Ok ending) bytes left before held
      → ((rs : List G.Record) → Has rs → (piece : List ℕ) × Wants rs None piece × (written ≡ with_bytes before (held ++ piece))) → IsWanting G Kind rule Wants bytes written
  wanting_end rule Has ending bytes left before written held is_end to wants =
      let at : IsAtEnd G Kind rule Has bytes before held = subst (λ (x : Ending Kind). RecordsTo G Kind rule Has (Ok x) bytes left before held) is_end to in
      let it = wants (outline_of G bytes).records at.has in
      wanting_last rule Has bytes before written held it.0 at it.1 it.2

  -- nothing more is written then
  pub wanting_settled : {A : Type 0} (rule : Rule G Kind) (outcome result : Result A Stopped) (bytes : List ℕ) (before now : Option (List ℕ)) (held : List ℕ) (failed : ℕ) → Settles outcome result before now held failed → outcome ≡ Err stops.Memory → IsWanting G Kind rule Wants bytes before → IsWanting G Kind rule Wants bytes now
  wanting_settled {A} rule outcome result bytes before now held failed settles memory wanting =
      let it : Settles {A = A} (Err stops.Memory) result before now held failed = subst (λ (o : Result A Stopped). Settles o result before now held failed) memory settles in
      subst (λ (w : Option (List ℕ)). IsWanting G Kind rule Wants bytes w) (sym it.1) wanting
