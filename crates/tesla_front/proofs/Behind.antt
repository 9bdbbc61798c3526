-- Files behind others: which were opened, and which failed.
use Rattle.std.proofs.Common.{◌≡◌, ◌≢◌, ◌∙◌, inl, inr, ℕ, ◌+◌, ◌≤◌, Option, Some, None, List, [], ◌∷◌, ◌++◌, length, take, codes, refl, sym, ap, subst, append_assoc, arith}
use Rattle.std.proofs.lemmas.List.{take-append-le, take_all}
use Rattle.std.proofs.Math.Seq.{take-append-add}
use Rattle.tesla_desk.specs.Outside.{Told, Opening, OfSource, OfSink, OfLink, OfPost, with_openings}
use Rattle.tesla_front.specs.Openings.{AnyFailed, AreFiles, IsAmong, Opens}

-- ---- among

pub among_prefix : (opening : Opening) (files others : List Opening) → IsAmong opening files → IsAmong opening (files ++ others)
among_prefix opening [] others among = absurd among
among_prefix opening (file ∷ files) others (inl same) = inl same
among_prefix opening (file ∷ files) others (inr among) = inr (among_prefix opening files others among)

pub among_back : (opening : Opening) (files others : List Opening) → IsAmong opening others → IsAmong opening (files ++ others)
among_back opening [] others among = among
among_back opening (file ∷ files) others among = inr (among_back opening files others among)

-- ---- openings

pub are_files_more : (files : List Opening) (output : List ℕ) → AreFiles files → output ≢ codes "-" → AreFiles (files ++ OfSink output ∷ [])
are_files_more [] output named other = (other, tt)
are_files_more (file ∷ files) output named other = (named.0, are_files_more files output named.1 other)

openings_twice : (told : Option (List Opening)) (a b : List Opening) → with_openings (with_openings told a) b ≡ with_openings told (a ++ b)
openings_twice None a b = refl
openings_twice (Some before) a b = ap (λ (os : List Opening). Some os) (append_assoc before a b)

-- a prefix of some files was opened, before others
pub opens_prefix : (files others : List Opening) (opened : ℕ) (before now : Told) → opened ≤ length files → Opens files opened before now → Opens (files ++ others) opened before now
opens_prefix files others opened before now few opens =
    let same : take opened (files ++ others) ≡ take opened files = take-append-le opened files others few in record {
      asked = opens.asked ∙ ap (λ (os : List Opening). with_openings before.openings os) (sym same);
      pages = λ name none. opens.pages name (λ among. none (subst (λ (os : List Opening). IsAmong (OfSink name) os) (sym same) among));
      lefts = λ name none. opens.lefts name (λ among. none (subst (λ (os : List Opening). IsAmong (OfSource name) os) (sym same) among));
    }

-- all of some files were opened, and then so many of others
pub opens_more : (files others : List Opening) (opened : ℕ) (before mid now : Told) → Opens files (length files) before mid → Opens others opened mid now → Opens (files ++ others) (length files + opened) before now
opens_more files others opened before mid now first opens =
    let whole : take (length files) files ≡ files = take_all (length files) files (omega arith) in
    let same : take (length files + opened) (files ++ others) ≡ files ++ take opened others = take-append-add files others opened in record {
      asked = opens.asked ∙ ap (λ (told : Option (List Opening)). with_openings told (take opened others)) (first.asked ∙ ap (λ (os : List Opening). with_openings before.openings os) whole) ∙ openings_twice before.openings files (take opened others) ∙ ap (λ (os : List Opening). with_openings before.openings os) (sym same);
      pages = λ name none. opens.pages name (λ among. none (subst (λ (os : List Opening). IsAmong (OfSink name) os) (sym same) (among_back (OfSink name) files (take opened others) among)))
          ∙ first.pages name (λ among. none (subst (λ (os : List Opening). IsAmong (OfSink name) os) (sym same) (among_prefix (OfSink name) files (take opened others) (subst (λ (os : List Opening). IsAmong (OfSink name) os) whole among))));
      lefts = λ name none. opens.lefts name (λ among. none (subst (λ (os : List Opening). IsAmong (OfSource name) os) (sym same) (among_back (OfSource name) files (take opened others) among)))
          ∙ first.lefts name (λ among. none (subst (λ (os : List Opening). IsAmong (OfSource name) os) (sym same) (among_prefix (OfSource name) files (take opened others) (subst (λ (os : List Opening). IsAmong (OfSource name) os) whole among))));
    }

-- ---- outputs that failed

-- an output that failed did so among more files
pub failed_prefix : (files others : List Opening) (now : Told) → AnyFailed files now → AnyFailed (files ++ others) now
failed_prefix [] others now failed = absurd failed
failed_prefix (OfSource name ∷ files) others now failed = failed_prefix files others now failed
failed_prefix (OfLink name ∷ files) others now failed = failed_prefix files others now failed
failed_prefix (OfPost name ∷ files) others now (inl own) = inl own
failed_prefix (OfPost name ∷ files) others now (inr other) = inr (failed_prefix files others now other)
failed_prefix (OfSink name ∷ files) others now (inl own) = inl own
failed_prefix (OfSink name ∷ files) others now (inr other) = inr (failed_prefix files others now other)

pub failed_back : (files others : List Opening) (now : Told) → AnyFailed others now → AnyFailed (files ++ others) now
failed_back [] others now failed = failed
failed_back (OfSource name ∷ files) others now failed = failed_back files others now failed
failed_back (OfLink name ∷ files) others now failed = failed_back files others now failed
failed_back (OfPost name ∷ files) others now failed = inr (failed_back files others now failed)
failed_back (OfSink name ∷ files) others now failed = inr (failed_back files others now failed)
