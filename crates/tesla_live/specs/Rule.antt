-- The rule by which a run reads the time. A sender is never ahead of the clock that the run began with, and a receiver never behind it.
use Rattle.std.specs.Prelude.{ℕ, ◌+◌, ◌-◌, ◌^◌, ◌==◌, min, max, Option, Some, None, if◌then◌else◌}
use Rattle.tesla_live.specs.declared.command.Command.{Command}
use Rattle.tesla_live.specs.declared.command.Command.TheVariants as commands
use Rattle.tesla_live.specs.declared.rule.Anchor.{Anchor}
use Rattle.tesla_live.specs.declared.rule.Times.{Times}

-- the anchor at what both clocks read; none where one of the two can't be had
abbrev pub anchor_of : Option ℕ → Option ℕ → Option Anchor
anchor_of (Some since_1970) (Some since_boot) = Some (record { since_1970 = since_1970; since_boot = since_boot })
anchor_of _ _ = None

-- the steady clock: what the system's clock read when the run began, and what the time since the machine's start has gone on by since then
abbrev pub steady : Anchor → ℕ → ℕ
steady anchor since_boot = min (anchor.since_1970 + (since_boot - anchor.since_boot)) (2 ^ 64 - 1)

-- one of the system's reading and the steady one; 2^64 - 1 where one of the two can't be had
abbrev pub picked : (ℕ → ℕ → ℕ) → Anchor → Option ℕ → Option ℕ → ℕ
picked pick anchor (Some since_1970) (Some since_boot) = pick since_1970 (steady anchor since_boot)
picked pick anchor _ _ = 2 ^ 64 - 1

-- a sender's reading: the smaller
abbrev pub sender_reading : Anchor → Times → ℕ
sender_reading anchor now = picked min anchor now.since_1970 now.since_boot

-- a receiver's reading: the greater
abbrev pub receiver_reading : Anchor → Times → ℕ
receiver_reading anchor now = picked max anchor now.since_1970 now.since_boot

-- what a play reads: a sender's reading, and 0, at which nothing is due, where that can't be had
abbrev pub play_reading : Anchor → Times → ℕ
play_reading anchor now = if sender_reading anchor now == 2 ^ 64 - 1 then 0 else sender_reading anchor now

-- what the clock of a command reads
abbrev pub reading_for : Command → Anchor → Times → ℕ
reading_for commands.Feed anchor now = sender_reading anchor now
reading_for commands.Play anchor now = play_reading anchor now
reading_for _ anchor now = receiver_reading anchor now
