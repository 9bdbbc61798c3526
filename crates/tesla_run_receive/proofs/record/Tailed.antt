-- What the page of TAIL holds.
use Rattle.std.proofs.Common.{◌≡◌, ℕ, nat_lt, Bool, true, false, not, Option, Some, None, IfSome, List, [], take, refl}
use Rattle.tesla_desk.specs.Faults.{HasCause}
use Rattle.tesla_desk.specs.Outside.{AppendsPrefix, Holds, page_of, with_bytes}
use Rattle.tesla_desk.proofs.Counts.{cause_as}
use Rattle.tesla_desk.proofs.Told.{first_written}
use Rattle.tesla_receiver.specs.Entries.{Entry}
use Rattle.tesla_run_receive.proofs.Heard.{fails_not}
use Rattle.tesla_run_receive.specs.record.Record.{HoldsTail, tail_of}

not_true : (done : Bool) → not done ≡ true → done ≡ false
not_true true is = absurd cc
not_true false is = refl

not_false : (done : Bool) → done ≡ false → not done ≡ true
not_false true is = absurd cc
not_false false is = refl

-- it failed where not all was written
pub fails_unwritten : (count : ℕ) (done : Bool) → HasCause 0 count (done ≡ false) → HasCause 0 count (not done ≡ true)
fails_unwritten count done cause = cause_as 0 count cause (not_true done) (not_false done)

module _ (keep : ℕ) (history : List Entry) (fresh written : Option (List ℕ)) (count : ℕ) (done : Bool) (empty : IfSome fresh (λ bytes. bytes ≡ []))
    (all : done ≡ true → written ≡ with_bytes fresh (tail_of keep history)) (prefix : AppendsPrefix fresh written (tail_of keep history)) (cause : HasCause 0 count (done ≡ false)) where
  holds_by : (own : Bool) (bytes : List ℕ) (test : Bool) → done ≡ own → nat_lt 0 count ≡ test → written ≡ Some bytes → HoldsTail keep history (Holds bytes test)
  holds_by true bytes false is none told = first_written fresh written (tail_of keep history) bytes empty (all is) told
  holds_by false bytes false is none told = absurd (fails_not count cause none is)
  holds_by own bytes true is some told = (prefix.0, first_written fresh written (take prefix.0 (tail_of keep history)) bytes empty prefix.1.written told)

  holds_page : (now : Option (List ℕ)) → written ≡ now → HoldsTail keep history (page_of now count)
  holds_page None is = tt
  holds_page (Some bytes) is = holds_by done bytes (nat_lt 0 count) refl refl is

  -- what the page holds once it is closed
  pub holds_tail : HoldsTail keep history (page_of written count)
  holds_tail = holds_page written refl
