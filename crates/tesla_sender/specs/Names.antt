-- Which calls of a stream are accepted, and message names, without seeds.
use Rattle.std.specs.Prelude.{◌≡◌, ℕ, ◌+◌, Bool, List, [], ◌∷◌, ◌++◌, Result, Ok, Err, IsOk, nat_lt}
use Rattle.std.specs.List.{list_any}
use Rattle.tesla_base.specs.declared.names.Name.{Name}
use Rattle.tesla_commit.specs.Parts.{Parts}
use Rattle.tesla_commit.specs.declared.chain_row.ChainRow.{ChainRow}
use Rattle.tesla_sender.specs.Made.{Call, Message, Disclose, disclosed_after, interval_at, latest_of, messages_of, name_after, name_of}
use Rattle.tesla_sender.specs.Stands.{number_at}
use Rattle.tesla_sender.specs.declared.refusal.SendRefusal.{SendRefusal}
use Rattle.tesla_sender.specs.declared.refusal.DiscloseRefusal.{DiscloseRefusal}

-- ---- a call, by the log

-- some chain of these rows has a key to disclose in the interval
abbrev pub rows_due : ℕ → List ChainRow → Bool
rows_due interval rows = list_any (λ row. nat_lt row.delay interval) rows

-- the interval of a disclosure after a log, by the delays of the rows
abbrev pub disclosed_of : Parts → List Call → ℕ → Result ℕ DiscloseRefusal
disclosed_of setup log reading = disclosed_after setup.times (latest_of setup.times log) (rows_due (interval_at setup.times reading) setup.rows) reading

-- whether a disclosure is accepted, without its interval
abbrev pub accepted : Result ℕ DiscloseRefusal → Result (Unit {0}) DiscloseRefusal
accepted (Ok interval) = Ok tt
accepted (Err refusal) = Err refusal

-- the call is accepted after that log
abbrev pub IsNamed : Parts → List Call → Call → Type 0
IsNamed setup log (Message reading payload) = IsOk (name_of setup.times log reading payload)
IsNamed setup log (Disclose reading) = IsOk (disclosed_of setup log reading)

-- each call is accepted after those before it
abbrev pub AreNamedAfter : Parts → List Call → List Call → Type 0
AreNamedAfter setup before [] = Unit {0}
AreNamedAfter setup before (call ∷ calls) = IsNamed setup before call × AreNamedAfter setup (before ++ call ∷ []) calls

-- ---- a namer

-- what a contract sees of a namer: its setup, the interval of the last accepted call, and how many messages of that interval were accepted
pub record Naming : Type 0 where
  pub setup : Parts
  pub latest : ℕ
  pub used : ℕ

-- a namer names what comes after a log of accepted calls
pub record NamesAfter (namer : Naming) (log : List Call) : Type 0 where
  pub named : AreNamedAfter namer.setup [] log
  pub latest : namer.latest ≡ latest_of namer.setup.times log
  pub used : namer.used ≡ messages_of namer.setup.times namer.latest log

-- ---- a call, by the state alone

-- the name of a message
abbrev pub named_next : Naming → ℕ → List ℕ → Result Name SendRefusal
named_next namer reading payload =
    name_after namer.setup.times namer.latest (number_at namer.latest namer.used (interval_at namer.setup.times reading)) reading payload

-- the interval of a disclosure
abbrev pub disclosed_next : Naming → ℕ → Result ℕ DiscloseRefusal
disclosed_next namer reading = disclosed_after namer.setup.times namer.latest (rows_due (interval_at namer.setup.times reading) namer.setup.rows) reading

-- the namer has come to the interval, of which so many messages were accepted
abbrev pub come_to : Naming → ℕ → ℕ → Naming
come_to namer interval used = record { setup = namer.setup; latest = interval; used = used }

-- the namer after a message of that name
abbrev pub named_in : Naming → Name → Naming
named_in namer name = come_to namer name.interval (name.number + 1)

-- the namer after a disclosure in that interval
abbrev pub disclosed_in : Naming → ℕ → Naming
disclosed_in namer interval = come_to namer interval (number_at namer.latest namer.used interval)
