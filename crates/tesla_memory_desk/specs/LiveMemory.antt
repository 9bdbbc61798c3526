-- What a link, a post and a clock in memory keep.
use Rattle.std.specs.Prelude.{◌≡◌, ℕ, ◌-◌, ◌^◌, ◌||◌, Bool, true, false, nat_lt, min, max, ◌≤◌, zero, suc, List, [], ◌∷◌, ◌++◌, length, take, drop, Option, Some, None, if◌then◌else◌, get_or, option_map, ◌==◌}
use Rattle.tesla_memory_desk.specs.Calls.{CallNumbers, next_fails}
use Rattle.tesla_desk.specs.Faults.{raised}
use Rattle.tesla_desk.specs.Clocks.{Ticking}
use Rattle.tesla_desk.specs.Live.{Wire, AbsentWire, HoldsWire, Remainder, Mail, AbsentMail, HoldsMail}
use Rattle.tesla_memory_desk.specs.Stored.{newest}
use Rattle.tesla_memory_desk.specs.declared.entries.Named.{Named}
use Rattle.tesla_memory_desk.specs.declared.letters.Letters.{Letters}
use Rattle.tesla_desk.specs.declared.link.Letter.{Letter}
use Rattle.tesla_desk.specs.declared.link.Letter.TheVariants as letters
use Rattle.tesla_desk.specs.declared.link.Got.{Got}
use Rattle.tesla_desk.specs.declared.link.Got.TheVariants.{Datagram, Quiet, End, Failed}
use Rattle.tesla_memory_desk.specs.declared.outbox.Outbox.{Outbox}
use Rattle.tesla_desk.specs.declared.post.PostStep.{PostStep}
use Rattle.tesla_desk.specs.declared.post.PostStep.TheVariants as posts
use Rattle.tesla_memory_desk.specs.declared.stored_mail.StoredMail.{StoredMail}
use Rattle.tesla_memory_desk.specs.declared.readings.Readings.{Readings}
use Rattle.tesla_memory_desk.specs.declared.clock_lists.ClockList.{ClockList}
use Rattle.tesla_memory_desk.specs.declared.stored_letters.StoredLetters.{StoredLetters}
use Rattle.tesla_memory_desk.specs.declared.stored_letters.StoredRemainder.{StoredRemainder}

-- ---- links

-- the letters that a closed link left
abbrev pub letters_stored : StoredRemainder → List Letter
letters_stored rest = drop rest.at rest.letters.items.items

-- what a closed link leaves
abbrev pub remainder_stored : StoredRemainder → Remainder
remainder_stored rest = record { letters = letters_stored rest; failed = rest.failed }

-- what is there for links under a name, where letters are stored
abbrev pub wire_stored : Option StoredLetters → Wire
wire_stored None = AbsentWire
wire_stored (Some stored) = HoldsWire stored.items.items

abbrev pub wire_in : List (Named StoredLetters) → List ℕ → Wire
wire_in wires name = wire_stored (newest wires name)

abbrev pub remainder_in : List (Named StoredRemainder) → List ℕ → Option Remainder
remainder_in rests name = option_map remainder_stored (newest rests name)

-- the letters that are left of a link
abbrev pub letters_left : Letters → List Letter
letters_left link = letters_stored link.kept.entry.value

abbrev pub link_faults_of : Letters → ℕ
link_faults_of link = link.kept.faults

abbrev pub link_name_of : Letters → List ℕ
link_name_of link = link.kept.entry.name

-- the calls of a link, by number
abbrev pub link_calls_of : Letters → CallNumbers
link_calls_of link = link.kept.calls

-- what the next letter is answered by
abbrev pub answer_of : List Letter → Got
answer_of [] = End
answer_of (letters.Datagram bytes ∷ more) = Datagram (length bytes)
answer_of (letters.Quiet ∷ more) = Quiet

-- what a call of a link answers
abbrev pub link_answer : Letters → Got
link_answer link = if next_fails (link_calls_of link) then Failed else answer_of (letters_left link)

-- whether there is nothing for links
abbrev pub is_absent_wire : Wire → Bool
is_absent_wire (HoldsWire letters) = false
is_absent_wire _ = true

-- ---- posts

-- datagrams of these lengths that stand one behind another
abbrev pub cut : List ℕ → List ℕ → List (List ℕ)
cut [] bytes = []
cut (size ∷ more) bytes = take size bytes ∷ cut more (drop size bytes)

-- the datagrams that are stored of a post
abbrev pub datagrams_stored : StoredMail → List (List ℕ)
datagrams_stored stored = cut stored.lengths.items stored.bytes.items

-- the mail of a closed post, where one is stored
abbrev pub mail_stored : Option StoredMail → Mail
mail_stored None = AbsentMail
mail_stored (Some stored) = HoldsMail (datagrams_stored stored) stored.failed

abbrev pub mail_in : List (Named StoredMail) → List ℕ → Mail
mail_in mails name = mail_stored (newest mails name)

-- the datagrams of mail
abbrev pub datagrams_in : Mail → List (List ℕ)
datagrams_in (HoldsMail sent failed) = sent
datagrams_in _ = []

-- the datagrams that a post sent
abbrev pub sent_by : Outbox → List (List ℕ)
sent_by post = datagrams_stored post.kept.entry.value

abbrev pub post_faults_of : Outbox → ℕ
post_faults_of post = post.kept.faults

abbrev pub post_name_of : Outbox → List ℕ
post_name_of post = post.kept.entry.name

-- the calls of a post, by number
abbrev pub post_calls_of : Outbox → CallNumbers
post_calls_of post = post.kept.calls

-- how many bytes a post still takes
abbrev pub post_room_of : Outbox → ℕ
post_room_of post = post.room

-- how much of the room a datagram of this length takes: as many bytes as it has, and one where it has none
abbrev pub room_taken : ℕ → ℕ
room_taken size = max size 1

-- what a post answers to a datagram of this length
abbrev pub post_answer : ℕ → Outbox → PostStep
post_answer size post = if next_fails (post_calls_of post) || nat_lt (post_room_of post) (room_taken size) then posts.Failed else posts.Sent

-- the room after a datagram of this length with this answer
abbrev pub post_room_after : ℕ → PostStep → ℕ → ℕ
post_room_after size posts.Sent room = room - room_taken size
post_room_after size posts.Failed room = room

-- the count of faults after this answer
abbrev pub post_faults_after : PostStep → ℕ → ℕ
post_faults_after posts.Sent faults = faults
post_faults_after posts.Failed faults = raised faults

-- ---- clocks

-- the readings to come of a clock with this list, after n readings: all but those, and always the last
abbrev pub ahead_after : ℕ → List ℕ → List ℕ
ahead_after n [] = []
ahead_after n (first ∷ more) = drop (min n (length more)) (first ∷ more)

-- the reading behind n others
abbrev pub reading_after : ℕ → List ℕ → ℕ
reading_after n [] = 0
reading_after n (first ∷ more) = get_or (first ∷ more) (min n (length more)) 0

-- the first n readings
abbrev pub readings_until : ℕ → List ℕ → List ℕ
readings_until zero readings = []
readings_until (suc n) readings = readings_until n readings ++ reading_after n readings ∷ []

abbrev pub told_where : Bool → ℕ → List ℕ → Option Ticking
told_where true n readings = Some (record { ahead = ahead_after n readings; given = readings_until n readings })
told_where false n readings = None

-- what a clock with this list tells after n readings, until the count stands still at the end of its type
abbrev pub told_after : ℕ → List ℕ → Option Ticking
told_after n readings = told_where (nat_lt n (2 ^ 64 - 1)) n readings

-- what a clock in memory tells
abbrev pub clock_told_of : Readings → Option Ticking
clock_told_of clock = told_after clock.count clock.list.items

-- a clock's number and its readings
abbrev pub numbered : ClockList → ℕ × List ℕ
numbered entry = (entry.number, entry.readings.items)

-- the readings that are listed for a clock: those put last
abbrev pub listed : List (ℕ × List ℕ) → ℕ → List ℕ
listed [] number = []
listed (entry ∷ rest) number = if entry.0 == number then entry.1 else listed rest number

-- the readings that were put, the newest first, and how many clocks were made. The number stands still at 2^64 - 1
pub record MadeClocks : Type 0 where
  pub lists : List (ℕ × List ℕ)
  pub made : ℕ

abbrev pub no_clocks : MadeClocks
no_clocks = record { lists = []; made = 0 }

abbrev pub with_readings : ℕ → List ℕ → MadeClocks → MadeClocks
with_readings number readings clocks = record clocks { lists = (number, readings) ∷ clocks.lists }

abbrev pub after_made : MadeClocks → MadeClocks
after_made clocks = record clocks { made = raised clocks.made }

-- the readings of a clock: clock 2^64 - 1, which every further clock is, has none
abbrev pub readings_in : List (ℕ × List ℕ) → ℕ → List ℕ
readings_in lists number = if nat_lt number (2 ^ 64 - 1) then listed lists number else []

-- each clock that is still to be made has a copy of its readings
abbrev pub AreCopied : ℕ → List (ℕ × List ℕ) → List (ℕ × List ℕ) → Type 0
AreCopied made lists copies = (number : ℕ) → made ≤ number → listed copies number ≡ listed lists number
