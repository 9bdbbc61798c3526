-- What the inner steps of a conversion come to.
use Rattle.std.specs.Prelude.{◌≡◌, ◌⊎◌, ℕ, ◌<◌, ◌≤◌, true, Option, Some, None, Result, Ok, Err, List, [], ◌∷◌, ◌++◌}
use Rattle.tesla_capture.specs.Grammar.{Grammar, limit}
use Rattle.tesla_capture.specs.Records.{outline_of, record_offset}
use Rattle.tesla_capture.specs.Steps.{Progress}
use Rattle.tesla_capture.specs.Taken.{HoldsNoRefusal, IsTaken}
use Rattle.tesla_desk.specs.Outside.{AppendsPrefix, with_bytes}
use Rattle.tesla_convert.specs.Held.{HoldsText, HoldsPrefix}
use Rattle.tesla_convert.specs.Rule.{Behind, Rule, Unread, made, made_of, made_so_far, with_text}
use Rattle.tesla_convert.specs.declared.converter.Converted.{Converted}
use Rattle.tesla_convert.specs.declared.converter.Converted.TheVariants as conversions
use Rattle.tesla_convert.specs.declared.converter.Converted.TheVariants.{Whole, WriteFault, NoMemory}
use Rattle.tesla_convert.specs.declared.conversion.Ending.{Ending}
use Rattle.tesla_convert.specs.declared.conversion.Ending.TheVariants.{End, Refused}
use Rattle.tesla_convert.specs.declared.conversion.Stopped.{Stopped}
use Rattle.tesla_convert.specs.declared.conversion.Stopped.TheVariants.{Read, Write, Memory}

-- these first records of a file were converted, and the rest of it isn't taken yet
pub record IsAt (G : Grammar) (Kind : Type 0) (rule : Rule G Kind) (Has : List G.Record → Type 0) (bytes : List ℕ) (offset : ℕ) (ahead written : Option (List ℕ)) (held : List ℕ) : Type 0 where
  pub records : List G.Record
  pub rest : List ℕ
  pub text : List ℕ
  pub ahead_is : ahead ≡ Some rest
  pub taken : IsTaken G bytes records offset rest
  -- none of them is refused, and this is written of them
  pub passed : (behind : Behind Kind) (more : List G.Record) → made_of G Kind rule behind 5 [] (records ++ more) ≡ with_text text (made_of G Kind rule behind (record_offset offset) records more)
  pub has : Has records
  pub holds : HoldsText written held (rule.begins ++ text)

-- the offset rose, within the limit, and the reader goes on
pub record GoesUp (old new : Progress) : Type 0 where
  pub rises : old.place < new.place
  pub limited : new.place ≤ limit
  pub going : new.going ≡ true

-- the records of the file were converted to its end, and its end isn't taken yet
pub record IsAtEnd (G : Grammar) (Kind : Type 0) (rule : Rule G Kind) (Has : List G.Record → Type 0) (bytes : List ℕ) (written : Option (List ℕ)) (held : List ℕ) : Type 0 where
  pub text : List ℕ
  pub has : Has (outline_of G bytes).records
  pub made_is : made G Kind rule bytes ≡ record { text = text ++ rule.ends (outline_of G bytes).records; refused = None }
  pub whole : (outline_of G bytes).fault ≡ None
  pub text_is : text ≡ rule.begins ++ (made_of G Kind rule Unread 5 [] (outline_of G bytes).records).text
  pub holds : HoldsText written held text

-- the records of the file were converted, and this is the first place that is refused, or none is and its end was taken
pub record IsMade (G : Grammar) (Kind : Type 0) (rule : Rule G Kind) (refused : Option (ℕ × Kind)) (bytes : List ℕ) (written : Option (List ℕ)) (held : List ℕ) : Type 0 where
  pub refused_is : (made G Kind rule bytes).refused ≡ refused
  pub holds : HoldsText written held (made G Kind rule bytes).text

-- a read failed: what was read of the file before holds no refused place, no record of that is refused, and all of it was converted
pub record IsCutOff (G : Grammar) (Kind : Type 0) (rule : Rule G Kind) (bytes : List ℕ) (left written : Option (List ℕ)) (held : List ℕ) : Type 0 where
  pub read : List ℕ
  pub rest : List ℕ
  pub left_is : left ≡ Some rest
  pub parts : bytes ≡ read ++ rest
  pub none : HoldsNoRefusal G read
  pub taken : (made_so_far G Kind rule read).refused ≡ None
  pub holds : HoldsText written held (made_so_far G Kind rule read).text

-- behind these records of a file stands that one, or with them the file ends
abbrev pub StandsNext : (G : Grammar) → List ℕ → List G.Record → Option G.Record → Type 0
StandsNext G bytes records (Some first) = (rest : List G.Record) × ((outline_of G bytes).records ≡ records ++ first ∷ rest)
StandsNext G bytes records None = ((outline_of G bytes).records ≡ records) × ((outline_of G bytes).fault ≡ None)

-- memory was wanting behind these records of the file, at the next one or at the end: what is made of them is written, and this of that
pub record IsWanting (G : Grammar) (Kind : Type 0) (rule : Rule G Kind) (Wants : List G.Record → Option G.Record → List ℕ → Type 0) (bytes : List ℕ) (written : Option (List ℕ)) : Type 0 where
  pub records : List G.Record
  pub next : Option G.Record
  pub piece : List ℕ
  pub stands : StandsNext G bytes records next
  pub wants : Wants records next piece
  pub holds : HoldsText written [] (rule.begins ++ (made_of G Kind rule Unread 5 [] records).text ++ piece)

-- the next record was converted, or there was none, or it is refused, or the conversion stopped
abbrev pub StepsTo : (G : Grammar) (Kind : Type 0) → Rule G Kind → (List G.Record → Type 0) → Result (Option (Ending Kind)) Stopped → List ℕ → ℕ → Option (List ℕ) → Option (List ℕ) → Option (List ℕ) → List ℕ → Type 0
StepsTo G Kind rule Has (Ok None) bytes offset ahead left written held = IsAt G Kind rule Has bytes offset ahead written held
StepsTo G Kind rule Has (Ok (Some End)) bytes offset ahead left written held = IsAtEnd G Kind rule Has bytes written held
StepsTo G Kind rule Has (Ok (Some (Refused offset kind))) bytes now ahead left written held = IsMade G Kind rule (Some (offset, kind)) bytes written held
StepsTo G Kind rule Has (Err Read) bytes offset ahead left written held = IsCutOff G Kind rule bytes left written held
StepsTo G Kind rule Has (Err Write) bytes offset ahead left written held = HoldsPrefix written [] (made G Kind rule bytes).text
StepsTo G Kind rule Has (Err Memory) bytes offset ahead left written held = HoldsPrefix written [] (made G Kind rule bytes).text

-- all records were converted
abbrev pub RecordsTo : (G : Grammar) (Kind : Type 0) → Rule G Kind → (List G.Record → Type 0) → Result (Ending Kind) Stopped → List ℕ → Option (List ℕ) → Option (List ℕ) → List ℕ → Type 0
RecordsTo G Kind rule Has (Ok End) bytes left written held = IsAtEnd G Kind rule Has bytes written held
RecordsTo G Kind rule Has (Ok (Refused offset kind)) bytes left written held = IsMade G Kind rule (Some (offset, kind)) bytes written held
RecordsTo G Kind rule Has (Err Read) bytes left written held = IsCutOff G Kind rule bytes left written held
RecordsTo G Kind rule Has (Err Write) bytes left written held = HoldsPrefix written [] (made G Kind rule bytes).text
RecordsTo G Kind rule Has (Err Memory) bytes left written held = HoldsPrefix written [] (made G Kind rule bytes).text

-- the file was converted to its end
abbrev pub AllTo : (G : Grammar) (Kind : Type 0) → Rule G Kind → (List G.Record → Type 0) → Result (Ending Kind) Stopped → List ℕ → Option (List ℕ) → Option (List ℕ) → List ℕ → Type 0
AllTo G Kind rule Ended (Ok End) bytes left written held = Ended (outline_of G bytes).records × IsMade G Kind rule None bytes written held
AllTo G Kind rule Ended (Ok (Refused offset kind)) bytes left written held = IsMade G Kind rule (Some (offset, kind)) bytes written held
AllTo G Kind rule Ended (Err Read) bytes left written held = IsCutOff G Kind rule bytes left written held
AllTo G Kind rule Ended (Err Write) bytes left written held = HoldsPrefix written [] (made G Kind rule bytes).text
AllTo G Kind rule Ended (Err Memory) bytes left written held = HoldsPrefix written [] (made G Kind rule bytes).text

-- what is held was written at last, to a sink on which so many writes failed then: a failed read stays, and what was held is written or the sink failed; else a failed write is one, and after one nothing more is written; nor where memory was wanting
abbrev pub Settles : {A : Type 0} → Result A Stopped → Result A Stopped → Option (List ℕ) → Option (List ℕ) → List ℕ → ℕ → Type 0
Settles (Ok ending) (Ok other) before now held failed = (other ≡ ending) × (now ≡ with_bytes before held)
Settles (Ok ending) (Err stopped) before now held failed = (stopped ≡ Write) × AppendsPrefix before now held
Settles (Err Read) settled before now held failed = (settled ≡ Err Read) × ((now ≡ with_bytes before held) ⊎ ((0 < failed) × AppendsPrefix before now held))
Settles (Err Write) settled before now held failed = (settled ≡ Err Write) × (now ≡ before)
Settles (Err Memory) settled before now held failed = (settled ≡ Err Memory) × (now ≡ before)

-- a read failed, and what was made before is written, or the output failed
pub record IsWrittenSoFar (G : Grammar) (Kind : Type 0) (rule : Rule G Kind) (bytes : List ℕ) (left written : Option (List ℕ)) (failed : ℕ) : Type 0 where
  pub read : List ℕ
  pub rest : List ℕ
  pub left_is : left ≡ Some rest
  pub parts : bytes ≡ read ++ rest
  pub none : HoldsNoRefusal G read
  pub taken : (made_so_far G Kind rule read).refused ≡ None
  pub written_is : HoldsText written [] (made_so_far G Kind rule read).text ⊎ ((0 < failed) × HoldsPrefix written [] (made_so_far G Kind rule read).text)

-- the file was converted, and what was made of it is written
abbrev pub Converts : (G : Grammar) (Kind : Type 0) → Rule G Kind → (List G.Record → Type 0) → Result (Ending Kind) Stopped → List ℕ → Option (List ℕ) → Option (List ℕ) → ℕ → Type 0
Converts G Kind rule Ended (Ok End) bytes left written failed = Ended (outline_of G bytes).records × IsMade G Kind rule None bytes written []
Converts G Kind rule Ended (Ok (Refused offset kind)) bytes left written failed = IsMade G Kind rule (Some (offset, kind)) bytes written []
Converts G Kind rule Ended (Err Read) bytes left written failed = IsWrittenSoFar G Kind rule bytes left written failed
Converts G Kind rule Ended (Err Write) bytes left written failed = HoldsPrefix written [] (made G Kind rule bytes).text
Converts G Kind rule Ended (Err Memory) bytes left written failed = HoldsPrefix written [] (made G Kind rule bytes).text

-- on a sink so many writes failed: none did, unless a failed write is what came
abbrev pub SoundFor : {A : Type 0} → Result A Stopped → ℕ → Type 0
SoundFor (Ok x) failed = failed ≡ 0
SoundFor (Err Read) failed = failed ≡ 0
SoundFor (Err Write) failed = 0 < failed
SoundFor (Err Memory) failed = failed ≡ 0

-- after a record that was converted there may be more; one that is refused ends the file at its offset
abbrev pub ending_at : {Kind : Type 0} → ℕ → Converted Kind → Result (Option (Ending Kind)) Stopped
ending_at offset Whole = Ok None
ending_at offset (conversions.Refused kind) = Ok (Some (Refused offset kind))
ending_at offset WriteFault = Err Write
ending_at offset NoMemory = Err Memory
