-- An input of which nothing was read.
use Rattle.std.proofs.Common.{◌≡◌, ◌∙◌, ◌⊎◌, inl, inr, ℕ, suc, Option, Some, List, arith}
use Rattle.tesla_desk.specs.Outside.{Page, Untold, Absent, Holds, Opened}
use Rattle.tesla_front.specs.Files.{HoldsWhere}
use Rattle.tesla_convert.specs.Meaning.{IsUnread}

-- of a source that was opened nothing was read where all is left
pub unread_page : (input : Page) (before left : Option (List ℕ)) → Opened input before → left ≡ before → HoldsWhere input (λ bytes. left ≡ Some bytes)
unread_page Untold before left opened same = tt
unread_page Absent before left opened same = absurd opened
unread_page (Holds bytes failed) before left opened same = same ∙ opened

-- the same of the source when it was closed
pub unread_closed : {May : Type 0} (opened : ℕ) (input : Page) (before left now : Option (List ℕ)) → Opened input before → now ≡ left → (left ≡ before) ⊎ May → IsUnread 0 opened input now ⊎ May
unread_closed opened input before left now is own (inl all) = inl (inr (unread_page input before now is (own ∙ all)))
unread_closed opened input before left now is own (inr may) = inr may

-- one file more stands before the input, and was asked for
pub unread_behind : (before opened : ℕ) (input : Page) (left : Option (List ℕ)) → IsUnread before opened input left → IsUnread (suc before) (suc opened) input left
unread_behind before opened input left (inl few) = inl (omega (arith, few))
unread_behind before opened input left (inr all) = inr all

-- memory is wanting only before the first byte is read
pub unread_never : (before opened : ℕ) (input : Page) (left : Option (List ℕ)) → IsUnread before opened input left ⊎ ⊥ → IsUnread before opened input left
unread_never before opened input left (inl unread) = unread
unread_never before opened input left (inr never) = absurd never
