-- What the bytes that are pending tell of the record or the head at their start, whatever follows.
use Rattle.std.proofs.Common.{◌≡◌, ◌∙◌, ℕ, ◌+◌, ◌≤◌, List, length, Option, Some, refl, sym, ap, subst}
use Rattle.tesla_desk.specs.Outside.{after_bytes, Ends}
use Rattle.tesla_desk.proofs.Told.{after_bytes_some, ended_rest}
use Rattle.tesla_records.specs.Grammar.{Whole, Bad, Grammar, IsGrammar, AwaitsHead, HeadIs, NoHead, limit}
use Rattle.tesla_records.specs.Records.{parsed_head}
use Rattle.tesla_records.specs.declared.refusal.Refusal.TheVariants.{BadRecord}
use Rattle.tesla_records.specs.declared.found.Found.{Found}
use Rattle.tesla_records.specs.declared.found.Found.TheVariants.{Record, Refused}
use Rattle.tesla_records.specs.declared.found.HeadFound.{HeadFound}
use Rattle.tesla_records.specs.declared.found.HeadFound.TheVariants as heads
use Rattle.tesla_records.specs.Found.{Finds, Tells, TellsHead, FindsHead}
use Rattle.tesla_records.proofs.NextRecord.{whole_next, bad_next}

-- ---- records

-- a whole record
pub whole_tells : (G : Grammar) → IsGrammar G → {K : Type 0} (kind_of : K → G.Kind) (bytes : List ℕ) (it : G.Record) (size : ℕ) → G.parse bytes ≡ Whole it size → Tells G kind_of (Some (Record size)) bytes
whole_tells G is kind_of bytes it size e = (
  (λ h. cc),
  (it, e),
  λ offset left fits. (left, refl, refl, λ other told. whole_next G is offset bytes left other size told fits),
)

-- no record
pub bad_tells : (G : Grammar) → IsGrammar G → {K : Type 0} (kind_of : K → G.Kind) (bytes : List ℕ) (kind : K) → G.parse bytes ≡ Bad (kind_of kind) → Tells G kind_of (Some (Refused (BadRecord kind))) bytes
bad_tells G is kind_of bytes kind e = (
  (λ h. cc),
  (λ h. cc),
  λ offset left fits. (bad_next G is offset bytes left (kind_of kind) e fits, refl),
)

-- what pending bytes tell is found in the rest of the file
pub parsed_finds : (G : Grammar) {K : Type 0} (kind_of : K → G.Kind) (found : Found K) (offset : ℕ) (bytes rest : List ℕ) (left : Option (List ℕ)) → Tells G kind_of (Some found) bytes → offset + length bytes ≤ limit → after_bytes bytes left ≡ Some rest → Finds G kind_of found offset bytes rest left
parsed_finds G kind_of found offset bytes rest left tells fits e =
    let more = after_bytes_some bytes left rest e in
    subst (λ (l : Option (List ℕ)). Finds G kind_of found offset bytes rest l) (sym more.1)
    (subst (λ (r : List ℕ). Finds G kind_of found offset bytes r (Some more.0)) (sym more.2) (tells.2 offset more.0 fits))

-- ---- heads

-- a whole head
pub head_whole_tells : (G : Grammar) → IsGrammar G → {H : Type 0} (head_of : H → G.Head) (bytes : List ℕ) (head : H) → G.parse_head bytes ≡ HeadIs (head_of head) → TellsHead G head_of (Some (heads.Whole head)) bytes
head_whole_tells G is head_of bytes head e = (e, λ left. (is.head_is bytes left (head_of head) e).0)

-- no head
pub head_bad_tells : (G : Grammar) → IsGrammar G → {H : Type 0} (head_of : H → G.Head) (bytes : List ℕ) → G.parse_head bytes ≡ NoHead → TellsHead G head_of (Some heads.Bad) bytes
head_bad_tells G is head_of bytes e = λ left. ap parsed_head (is.head_none bytes left e)

-- what pending bytes tell of the head is found in the file
pub head_finds : (G : Grammar) {H : Type 0} (head_of : H → G.Head) (found : HeadFound H) (bytes rest : List ℕ) (left : Option (List ℕ)) → TellsHead G head_of (Some found) bytes → after_bytes bytes left ≡ Some rest → FindsHead G head_of found bytes rest left
head_finds G head_of (heads.Whole head) bytes rest left tells e =
    let more = after_bytes_some bytes left rest e in
    (ap G.parse_head more.2 ∙ tells.1 more.0, e)
head_finds G head_of heads.Bad bytes rest left tells e =
    let more = after_bytes_some bytes left rest e in
    (ap (λ (r : List ℕ). parsed_head (G.parse_head r)) more.2 ∙ tells more.0, e)
head_finds G head_of heads.Failed bytes rest left tells e = absurd tells

-- the file ends within its head
pub head_end_finds : (G : Grammar) {H : Type 0} (head_of : H → G.Head) (bytes now rest : List ℕ) (left after : Option (List ℕ)) → G.parse_head bytes ≡ AwaitsHead → now ≡ bytes → Ends left after → after_bytes bytes left ≡ Some rest → FindsHead G head_of heads.Bad now rest after
head_end_finds G head_of bytes now rest left after awaits same ends e = (
  ap (λ (r : List ℕ). parsed_head (G.parse_head r)) (ended_rest bytes left after rest ends e) ∙ ap parsed_head awaits,
  ap (λ (b : List ℕ). after_bytes b after) same ∙ ap (after_bytes bytes) ends.left ∙ e,
)
