-- What lives behind a run of a tool that may make a clock, with the console opened before and closed afterwards.
use Rattle.std.proofs.Common.{◌≡◌, inl, inr, List, ℕ, sym, subst}
use denote.Ref.{MutBor}
use Rattle.tesla_desk.specs.Live.{Live}
use Rattle.tesla_desk.specs.Outside.{Told}
use Rattle.tesla_front.specs.Table.{RunsConsole}
use Rattle.tesla_front.specs.declared.outcome.LiveRun.{LiveRun}
use Rattle.tesla_cli.specs.Commands.{KeepsLive}

-- what lives and is as before
pub kept : (words : List (List ℕ)) (before now : Live) → now ≡ before → KeepsLive words before now
kept words before now same = record { clock = inl same; others = λ _. same }

-- the console changes nothing of it
pub kept_run : {D T : Type 0} (told : D → Told) (Calls : MutBor D → LiveRun T → MutBor D → Type 0) (usage : List ℕ) (words : List (List ℕ)) (old new : D) (result : LiveRun T)
    → ((opened done : MutBor D) (run : LiveRun T) → Calls opened run done → KeepsLive words (told opened.now).live (told done.now).live)
    → RunsConsole told Calls usage old new result → KeepsLive words (told old).live (told new).live
kept_run told Calls usage words old new result keeps (inl none) = kept words (told old).live (told new).live none.0.live
kept_run told Calls usage words old new result keeps (inr it) =
    subst (λ (live : Live). KeepsLive words live (told new).live) it.reports.opens.live
    (subst (λ (live : Live). KeepsLive words (told it.opened.now).live live) (sym it.reports.closes.live) (keeps it.opened it.done it.run it.runs))
