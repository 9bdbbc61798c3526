-- The output beside the links and sinks, among the files of the command.
use Rattle.std.proofs.Common.{◌≡◌, ◌≢◌, ◌∙◌, ◌⊎◌, inl, inr, ℕ, zero, suc, ◌+◌, Option, List, [], ◌∷◌, ◌++◌, length, map, take, drop, refl, sym, ap, subst}
use Rattle.std.proofs.Math.Seq.{take-append-add}
use Rattle.tesla_desk.specs.Live.{Live}
use Rattle.tesla_desk.specs.Outside.{Told, Page, Opening, OfSource, OfSink, OfLink, OfPost, ClosesSink}
use Rattle.tesla_front.specs.Files.{HasFailed, HasFailedMail, IsUnwritten}
use Rattle.tesla_front.specs.Openings.{AnyFailed, File, IsAmong, Opens, file_told, files_told, name_of}
use Rattle.tesla_front.proofs.Behind.{among_prefix}
use Rattle.tesla_session.specs.Wanted.{Wanted, links_wanted, sinks_wanted, opening_for}
use Rattle.tesla_run_receive.specs.Arguments.{AreOthers}
use Rattle.tesla_run_receive.specs.Receive.{UnwrittenSinks}

-- ---- among

-- the output is none of the sinks
none_sink : (releaser : ℕ) (output : List ℕ) (names : List (List ℕ)) → AreOthers output names → IsAmong (OfSink output) (map opening_for (sinks_wanted releaser names)) → ⊥
none_sink releaser output [] others among = among
none_sink releaser output (name ∷ names) others (inl same) = others.0 (let e : name ≡ output = cc in e)
none_sink releaser output (name ∷ names) others (inr among) = none_sink (suc releaser) output names others.1 among

pub none_wanted : (ingest releaser : ℕ) (output : List ℕ) (links sinks : List (List ℕ)) → AreOthers output sinks → IsAmong (OfSink output) (map opening_for (links_wanted ingest links ++ sinks_wanted releaser sinks)) → ⊥
none_wanted ingest releaser output [] sinks others among = none_sink releaser output sinks others among
none_wanted ingest releaser output (link ∷ links) sinks others (inl same) = absurd cc
none_wanted ingest releaser output (link ∷ links) sinks others (inr among) = none_wanted (suc ingest) releaser output links sinks others among

-- ---- openings

-- the files are among those that were opened
pub among_opened : (opening : Opening) (files others : List Opening) (opened : ℕ) → IsAmong opening files → IsAmong opening (take (length files + opened) (files ++ others))
among_opened opening files others opened among = subst (λ (os : List Opening). IsAmong opening os) (sym (take-append-add files others opened)) (among_prefix opening files (take opened others) among)

-- behind openings a sink among the files was closed
pub sink_after : (files : List Opening) (opened : ℕ) (name : List ℕ) (written : Option (List ℕ)) (faults : ℕ) (before mid now : Told) → Opens files opened before mid → IsAmong (OfSink name) (take opened files) → ClosesSink name written faults mid now → Opens files opened before now
sink_after files opened name written faults before mid now opens among closes = record {
  asked = closes.asked ∙ opens.asked;
  pages = λ other none. closes.pages other (λ same. none (subst (λ (n : List ℕ). IsAmong (OfSink n) (take opened files)) (sym same) among)) ∙ opens.pages other none;
  lefts = λ other none. closes.lefts other ∙ opens.lefts other none;
}

-- ---- what is told of the files

-- behind the links the files are the sinks and the output
pub outs_told : (ingest : ℕ) (links : List (List ℕ)) (sinks : List Wanted) (others : List Opening) (told : Told) → drop (length links) (files_told told (map opening_for (links_wanted ingest links ++ sinks) ++ others)) ≡ files_told told (map opening_for sinks ++ others)
outs_told ingest [] sinks others told = refl
outs_told ingest (link ∷ links) sinks others told = outs_told (suc ingest) links sinks others told

pub sinks_told : (releaser : ℕ) (names : List (List ℕ)) (others : List Opening) (told : Told) → take (length names) (files_told told (map opening_for (sinks_wanted releaser names) ++ others)) ≡ files_told told (map opening_for (sinks_wanted releaser names))
sinks_told releaser [] others told = refl
sinks_told releaser (name ∷ names) others told = ap (λ (files : List File). file_told told name ∷ files) (sinks_told (suc releaser) names others told)

pub output_told : (releaser : ℕ) (names : List (List ℕ)) (others : List Opening) (told : Told) → drop (length names) (files_told told (map opening_for (sinks_wanted releaser names) ++ others)) ≡ files_told told others
output_told releaser [] others told = refl
output_told releaser (name ∷ names) others told = output_told (suc releaser) names others told

-- the closing of the output changes nothing of the sinks
pub sinks_same : (releaser : ℕ) (output : List ℕ) (names : List (List ℕ)) (before now : Told) → AreOthers output names → ((n : List ℕ) → n ≢ output → now.page n ≡ before.page n) → ((n : List ℕ) → now.left n ≡ before.left n) → files_told now (map opening_for (sinks_wanted releaser names)) ≡ files_told before (map opening_for (sinks_wanted releaser names))
sinks_same releaser output [] before now others pages lefts = refl
sinks_same releaser output (name ∷ names) before now others pages lefts =
    let page : now.page name ≡ before.page name = pages name others.0 in
    let left : now.left name ≡ before.left name = lefts name in
    let rest = sinks_same (suc releaser) output names before now others.1 pages lefts in
    let first : file_told now name ≡ file_told before name =
    ap (λ p. let f : File = record { page = p; left = now.left name } in f) page ∙ ap (λ l. let f : File = record { page = before.page name; left = l } in f) left in
    ap (λ f. f ∷ files_told now (map opening_for (sinks_wanted (suc releaser) names))) first ∙ ap (λ fs. file_told before name ∷ fs) rest

unwritten_told : (files : List Opening) (before now : Told) → ((name : List ℕ) → (now.page name ≡ before.page name) ⊎ IsUnwritten (now.page name)) → UnwrittenSinks (files_told before files) (files_told now files)
unwritten_told [] before now all = tt
unwritten_told (file ∷ files) before now all = (all (name_of file), unwritten_told files before now all)

-- nothing was written to the files behind the first ones
pub unwritten_behind : (n : ℕ) (files : List Opening) (before now : Told) → ((name : List ℕ) → (now.page name ≡ before.page name) ⊎ IsUnwritten (now.page name)) → UnwrittenSinks (drop n (files_told before files)) (drop n (files_told now files))
unwritten_behind zero files before now all = unwritten_told files before now all
unwritten_behind (suc n) [] before now all = tt
unwritten_behind (suc n) (file ∷ files) before now all = unwritten_behind n files before now all

-- ---- outputs that failed

-- an output that failed tells so still where its page is as before
pub failed_still : (files : List Opening) (before now : Told) → ((name : List ℕ) → IsAmong (OfSink name) files → now.page name ≡ before.page name) → now.live ≡ before.live → AnyFailed files before → AnyFailed files now
failed_still [] before now same live failed = failed
failed_still (OfSource name ∷ files) before now same live failed = failed_still files before now (λ n among. same n (inr among)) live failed
failed_still (OfLink name ∷ files) before now same live failed = failed_still files before now (λ n among. same n (inr among)) live failed
failed_still (OfPost name ∷ files) before now same live (inl own) = inl (subst (λ (l : Live). HasFailedMail (l.mail name)) (sym live) own)
failed_still (OfPost name ∷ files) before now same live (inr other) = inr (failed_still files before now (λ n among. same n (inr among)) live other)
failed_still (OfSink name ∷ files) before now same live (inl own) = inl (subst (λ (p : Page). HasFailed p) (sym (same name (inl refl))) own)
failed_still (OfSink name ∷ files) before now same live (inr other) = inr (failed_still files before now (λ n among. same n (inr among)) live other)
