-- The record of a released packet stays when more arrives.
use Rattle.std.proofs.Common.{◌≡◌, ℕ, ◌+◌, ◌<◌, Bool, true, List, [], ◌∷◌, ◌++◌, length, take, flat_map, Option, refl, ap, ◌∙◌}
use Rattle.std.specs.List.{list_all, enumerate_from}
use Rattle.std.proofs.lemmas.Bool.{ltb-true, and_parts}
use Rattle.tesla_base.proofs.Lists.{list_all-take, slice_get-append}
use Rattle.tesla_capture.specs.Release.{release_text}
use Rattle.tesla_fitting.specs.declared.config.Config.{Config}
use Rattle.tesla_receiver.specs.Entries.{Arrival}
use Rattle.tesla_walks.specs.declared.release.Release.{Release}
use Rattle.tesla_state.specs.Releases.{head_of}
use Rattle.tesla_receiver.specs.Packets.{released}
use Rattle.tesla_receiver.specs.History.{payload_of}
use Rattle.tesla_receiver.proofs.ArrivalOrders.{is_below, released_below}
use Rattle.tesla_replay.specs.Records.{text_of, texts_of}

texts_stay_from : (arrivals more : List Arrival) (n : ℕ) (xs : List Release) → list_all (is_below (length arrivals)) xs ≡ true → flat_map (text_of (arrivals ++ more)) (enumerate_from n xs) ≡ flat_map (text_of arrivals) (enumerate_from n xs)
texts_stay_from arrivals more n [] p = refl
texts_stay_from arrivals more n (x ∷ xs) p =
    let same = slice_get-append arrivals more x.place (ltb-true x.place (length arrivals) ((and_parts (is_below (length arrivals) x) (list_all (is_below (length arrivals)) xs) p).0)) in
    let later = texts_stay_from arrivals more (n + 1) xs ((and_parts (is_below (length arrivals) x) (list_all (is_below (length arrivals)) xs) p).1) in
    ap (λ (o : Option Arrival). release_text (head_of n x (payload_of o)) (payload_of o) ++ flat_map (text_of (arrivals ++ more)) (enumerate_from (n + 1) xs)) same
    ∙ ap (λ rs. text_of arrivals (n, x) ++ rs) later

-- the records of packets that were released before stay when more arrives
pub texts_stay : (cfg : Config) (arrivals more : List Arrival) (k : ℕ) → texts_of (arrivals ++ more) (take k (released cfg arrivals)) ≡ texts_of arrivals (take k (released cfg arrivals))
texts_stay cfg arrivals more k =
    texts_stay_from arrivals more 0 (take k (released cfg arrivals)) (list_all-take (is_below (length arrivals)) k (released cfg arrivals) (released_below cfg arrivals))
