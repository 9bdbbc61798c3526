-- STATUS among the files of the command, behind its link and its posts.
use Rattle.std.proofs.Common.{◌≡◌, ℕ, suc, ◌+◌, ◌<◌, nat_lt, true, Option, Some, None, List, [], ◌∷◌, ◌++◌, drop, length, map, refl, sym, subst₂, arith}
use Rattle.std.proofs.lemmas.Bool.Decides.{nat_tests}
use Rattle.tesla_desk.specs.Outside.{OfLink, OfPost, OfSink, Page, Told, page_of}
use Rattle.tesla_front.specs.Files.{HasFailed}
use Rattle.tesla_front.specs.Openings.{File, file_told, files_told}
use Rattle.tesla_run_relay.specs.watch.Watch.{StatusIs}

-- ---- what is told of STATUS

status_told : (names : List (List ℕ)) (status : List ℕ) (told : Told) → drop (length names) (files_told told (map OfPost names ++ OfSink status ∷ [])) ≡ file_told told status ∷ []
status_told [] status told = refl
status_told (name ∷ names) status told = status_told names status told

-- what holds of its page holds of the only file behind the link and the posts
pub status_is : (Is : Page → Page → Type 0) (link : List ℕ) (names : List (List ℕ)) (status : List ℕ) (before now : Told) → Is (before.page status) (now.page status)
    → StatusIs Is (drop (suc (length names)) (files_told before (OfLink link ∷ map OfPost names ++ OfSink status ∷ []))) (drop (suc (length names)) (files_told now (OfLink link ∷ map OfPost names ++ OfSink status ∷ [])))
status_is Is link names status before now is = subst₂ (λ (fs gs : List File). StatusIs Is fs gs) (sym (status_told names status before)) (sym (status_told names status now)) is

-- ---- outputs that failed

-- an output that failed tells so
pub failed_page : (written : Option (List ℕ)) (faults : ℕ) → 0 < faults → HasFailed (page_of written faults)
failed_page None faults some = tt
failed_page (Some bytes) faults some = let test : nat_lt 0 faults ≡ true = grind (arith, nat_tests, some) in test
