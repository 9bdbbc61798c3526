-- A link whose letters are sent on.
use Rattle.std.proofs.Common.{◌≡◌, ◌∙◌, ℕ, nat_lt, Option, Some, None, IfSome, Err, List, [], ◌∷◌, ◌++◌, refl, sym, ap}
use Rattle.tesla_desk.specs.Faults.{Rose}
use Rattle.tesla_desk.specs.Links.{after_letters}
use Rattle.tesla_desk.specs.Live.{OpenedLink, Wire, UntoldWire, AbsentWire, HoldsWire, remainder_of}
use Rattle.tesla_desk.specs.Outside.{OfLink, Opening, OpensLink, Told}
use Rattle.tesla_desk.specs.declared.desk.OpenRefusal.{OpenRefusal}
use Rattle.tesla_desk.specs.declared.desk.OpenRefusal.TheVariants as refusals
use Rattle.tesla_desk.specs.declared.link.Letter.{Letter}
use Rattle.tesla_front.specs.Openings.{Opens}
use Rattle.tesla_front.proofs.Openings.{opens_first, opens_none}
use Rattle.tesla_relay.specs.Links.{HasBroken, HasEnded, LeftWhere}
use Rattle.tesla_relay.proofs.Mails.{rose_reported}

-- its opening was tried, and nothing else was opened
pub link_tried : {A : Type 0} (link : List ℕ) (files : List Opening) (refusal : OpenRefusal) (before now : Told) → OpensLink {A = A} link (Err refusal) before now → (n : ℕ) × Opens (OfLink link ∷ files) n before now
link_tried link files refusals.Failed before now tried = (1, opens_first (OfLink link) files before now tried.asked (λ name none. tried.pages name) (λ name none. tried.lefts name))
link_tried link files refusals.NoMemory before now tried = (0, opens_none (OfLink link ∷ files) before now tried.asked tried.pages tried.lefts)

left_told : (taken letters : List Letter) (left later : Option (List Letter)) (missed : ℕ) → left ≡ Some letters → left ≡ after_letters taken later → LeftWhere taken (HoldsWire letters) (remainder_of later missed)
left_told taken letters left None missed told is = absurd (let no : Some letters ≡ None = sym told ∙ is in cc)
left_told taken letters left (Some rest) missed told is = let both : Some letters ≡ Some (taken ++ rest) = sym told ∙ is in cc

-- these letters left it
pub left_where : (taken : List Letter) (wire : Wire) (left later : Option (List Letter)) (missed : ℕ) → OpenedLink wire left → left ≡ after_letters taken later → LeftWhere taken wire (remainder_of later missed)
left_where taken UntoldWire left later missed opened is = tt
left_where taken AbsentWire left later missed opened is = absurd opened
left_where taken (HoldsWire letters) left later missed opened is = left_told taken letters left later missed opened is

-- it came to its end
pub ended_left : (later : Option (List Letter)) (missed : ℕ) → IfSome later (λ rest. rest ≡ []) → missed ≡ 0 → HasEnded (remainder_of later missed)
ended_left None missed none sound = tt
ended_left (Some rest) missed none sound = (none, ap (λ (n : ℕ). nat_lt 0 n) sound)

-- it failed
pub broken_left : (later : Option (List Letter)) (missed : ℕ) → Rose 0 missed → HasBroken (remainder_of later missed)
broken_left None missed rose = tt
broken_left (Some rest) missed rose = rose_reported 0 missed refl rose
