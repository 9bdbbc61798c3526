-- What the receiver of the three packets did, entry by entry.
use Rattle.std.specs.Prelude.{List, [], ◌∷◌, codes}
use Rattle.tesla_base.specs.declared.release.Head.{Head}
use Rattle.tesla_example.specs.Stream.{chain, first, second, spelled, third}
use Rattle.tesla_fitting.specs.declared.verdict.Verdict.TheVariants.{Kept, Late}
use Rattle.tesla_receiver.specs.Entries.{Arrival, Entry}
use Rattle.tesla_receiver.specs.declared.history.Entry.TheVariants.{Arrived, Taken, Ended}
use Rattle.tesla_state.specs.declared.replies.Reply.TheVariants.{Given, Over}
use Rattle.tesla_walks.specs.declared.release.Release.{Release}

-- the first packet comes while the sender is in interval 1 at most: it is kept, with the set of chain 0
abbrev pub first_arrival : Arrival
first_arrival = record { ingest = 0; reading = 1150000; bytes = spelled first; verdict = Kept 1 }

-- the forged one comes as early, and nobody but the sender can tell yet: it is kept too
abbrev pub second_arrival : Arrival
second_arrival = record { ingest = 0; reading = 1160000; bytes = spelled second; verdict = Kept 1 }

-- the third one comes when the sender may be in interval 5, where its key is disclosed: it is late, but the key that it carries is taken
abbrev pub third_arrival : Arrival
third_arrival = record { ingest = 0; reading = 1480000; bytes = spelled third; verdict = Late }

-- what the key releases: the packet that came first, by chain 0
abbrev pub release : Release
release = record { place = 0; name = first.name; chain = chain }

-- what is told of it when it is given
abbrev pub head : Head
head = record { position = 0; interval = 1; number = 0; chain = 0; length = 2 }

-- three packets come, a take gives the one that is released, the stream ends, and a further take is over
abbrev pub history : List Entry
history =
    Arrived first_arrival ∷ Arrived second_arrival ∷ Arrived third_arrival ∷ Taken 0 (Given head (codes "hi")) ∷ Ended 0 ∷ Taken 0 Over ∷ []
