use Rattle.tesla_follow_station.proofs.station.CountedFollowerStation.arrive.Given as goal

abbrev pub ghosts-judge : goal.ghosts-judge
ghosts-judge a = record { name = a.blank.name; parts = a.blank.parts }
