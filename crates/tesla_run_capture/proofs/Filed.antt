-- A recording, from what a recorder keeps at its end.
use Rattle.std.proofs.Common.{◌≡◌, ◌∙◌, ◌⊎◌, inl, inr, ℕ, ◌+◌, ◌<◌, ◌≤◌, Bool, true, false, Result, Ok, Err, List, [], ◌∷◌, ◌++◌, length, map, take, Option, IfSome, refl, sym, ap, subst, append_assoc, arith}
use Rattle.std.proofs.Math.Seq.{take-append-add}
use Rattle.std.proofs.lemmas.List.{length-append}
use Rattle.std.specs.List.{AllByRecursion}
use Rattle.std.specs.Prelude.{flat_map}
use Rattle.tesla_capture.specs.Capture.{Arrives, Takes, IsRecord, head, limit, record_text}
use Rattle.tesla_capture.specs.Gathering.{gathered}
use Rattle.tesla_desk.specs.Clocks.{Gives, Ticking}
use Rattle.tesla_desk.specs.Faults.{Rose}
use Rattle.tesla_desk.specs.Live.{clock_told}
use Rattle.tesla_desk.specs.Outside.{AppendsPrefix, with_bytes}
use Rattle.tesla_desk.specs.declared.link.Letter.{Letter}
use Rattle.tesla_desk.proofs.Told.{with_bytes_twice, with_more}
use Rattle.tesla_front.specs.declared.fault.Fault.{Fault}
use Rattle.tesla_front.specs.declared.fault.Fault.TheVariants as faults
use Rattle.tesla_run_capture.specs.Heard.{BreaksOff, Heard, IsFull, IsHeard, piece_of, pieces_of, reading_of, records_in, records_of, text_of}
use Rattle.tesla_run_capture.specs.Recording.{ComesTo, HearsLast, HearsOn, Records, RecordsFile}
use Rattle.tesla_run_capture.specs.declared.recorder.Recorder.{Recorder}
use Rattle.tesla_run_capture.proofs.Given.{letters_none, read_where}
use Rattle.tesla_run_capture.proofs.Kept.{breaks_gathered, gathered_most, gathers_written}

-- ---- texts

records_are : (heard : List Heard) → flat_map record_text (flat_map records_in heard) ≡ pieces_of heard
records_are [] = refl
records_are (one ∷ heard) =
    sym (append_assoc (record_text (Arrives one.reading one.bytes)) (record_text Takes) (flat_map record_text (flat_map records_in heard))) ∙ ap (λ (t : List ℕ). piece_of one ++ t) (records_are heard)

-- a capture is its head, and then its records
pub text_is : (heard : List Heard) → text_of heard ≡ head ++ pieces_of heard
text_is heard = ap (λ (t : List ℕ). head ++ t) (records_are heard)

pub text_size : (heard : List Heard) → length (text_of heard) ≡ 5 + length (pieces_of heard)
text_size heard = ap (λ (t : List ℕ). length t) (text_is heard) ∙ length-append head (pieces_of heard)

pub few_heard : (heard : List Heard) → length heard ≤ length (pieces_of heard)
few_heard [] = omega arith
few_heard (one ∷ heard) = omega (arith, few_heard heard, length-append (piece_of one) (pieces_of heard), length-append (record_text (Arrives one.reading one.bytes)) (record_text Takes))

-- the records of what was heard have the limits
pub all_records : (heard : List Heard) → AllByRecursion IsHeard heard → AllByRecursion IsRecord (records_of heard)
all_records [] all = tt
all_records (one ∷ heard) all = (all.0, (tt, all_records heard all.1))

-- ---- behind the head

full_text : (size : ℕ) (heard : List Heard) → size ≡ 5 + length (pieces_of heard) → IsFull size → IsFull (length (text_of heard))
full_text size heard same full = omega (arith, full, same, text_size heard)

over_text : (size : ℕ) (heard : List Heard) (later : Option (List Letter)) → size ≡ 5 + length (pieces_of heard) → IfSome later (λ rest. rest ≡ []) ⊎ IsFull size → IfSome later (λ rest. rest ≡ []) ⊎ IsFull (length (text_of heard))
over_text size heard later same (inl none) = inl none
over_text size heard later same (inr full) = inr (full_text size heard same full)

-- nothing was left, or the capture is full, and all was written
pub recorded_all : (read_for : ℕ → List ℕ → ℕ → Bool) (recorder : Recorder) (count : ℕ) (left later : Option (List Letter)) (before after : Option Ticking) (written mid kept : Option (List ℕ)) (failed : ℕ) → recorder.size ≤ limit → HearsOn read_for recorder left later before after written mid → IfSome later (λ rest. rest ≡ []) ⊎ IsFull recorder.size → kept ≡ with_bytes mid (gathered recorder.gatherer) → count ≡ recorder.count → Records (Ok count) left later before after written kept failed
recorded_all read_for recorder count left later before after written mid kept failed most on over wrote counted = record {
  heard = on.heard;
  hears = on.hears;
  fits = omega (arith, most, on.keeps.size, text_size on.heard);
  comes = (counted ∙ on.keeps.count, gathers_written written mid kept (gathered recorder.gatherer) (pieces_of on.heard) on.keeps.gathers wrote, over_text recorder.size on.heard later on.keeps.size over);
}

-- what was gathered isn't written
pub recorded_lost : (read_for : ℕ → List ℕ → ℕ → Bool) (recorder : Recorder) (left later : Option (List Letter)) (before after : Option Ticking) (written mid kept : Option (List ℕ)) (failed : ℕ) → recorder.size ≤ limit → recorder.gatherer.length ≤ 8192 → HearsOn read_for recorder left later before after written mid → AppendsPrefix mid kept (gathered recorder.gatherer) → Records (Err faults.Write) left later before after written kept failed
recorded_lost read_for recorder left later before after written mid kept failed most within on prefix = record {
  heard = on.heard;
  hears = on.hears;
  fits = omega (arith, most, on.keeps.size, text_size on.heard);
  comes = breaks_gathered written mid kept (gathered recorder.gatherer) (pieces_of on.heard) on.keeps.gathers prefix (omega (arith, gathered_most recorder within));
}

failed_by : (whole : Bool) (recorder : Recorder) (heard : List Heard) (later : Option (List Letter)) (written kept : Option (List ℕ)) (failed : ℕ) → (whole ≡ true → (failed ≡ 0) × (kept ≡ with_bytes written (pieces_of heard))) → (whole ≡ false → (0 < failed) × BreaksOff (pieces_of heard) written kept) → ComesTo (Err faults.Read) heard (pieces_of heard) later written kept failed
failed_by true recorder heard later written kept failed all some = inl (all refl)
failed_by false recorder heard later written kept failed all some = inr (some refl)

-- the link failed, and what was gathered was written, but where a write failed too
pub recorded_failed : (read_for : ℕ → List ℕ → ℕ → Bool) (whole : Bool) (recorder : Recorder) (left later : Option (List Letter)) (before after : Option Ticking) (written mid kept : Option (List ℕ)) (failed : ℕ) → recorder.size ≤ limit → recorder.gatherer.length ≤ 8192 → HearsOn read_for recorder left later before after written mid → (whole ≡ true → kept ≡ with_bytes mid (gathered recorder.gatherer)) → AppendsPrefix mid kept (gathered recorder.gatherer) → (whole ≡ true → failed ≡ 0) → (whole ≡ false → 0 < failed) → Records (Err faults.Read) left later before after written kept failed
recorded_failed read_for whole recorder left later before after written mid kept failed most within on wrote prefix none some = record {
  heard = on.heard;
  hears = on.hears;
  fits = omega (arith, most, on.keeps.size, text_size on.heard);
  comes = failed_by whole recorder on.heard later written kept failed
      (λ is. (none is, gathers_written written mid kept (gathered recorder.gatherer) (pieces_of on.heard) on.keeps.gathers (wrote is)))
      (λ is. (some is, breaks_gathered written mid kept (gathered recorder.gatherer) (pieces_of on.heard) on.keeps.gathers prefix (omega (arith, gathered_most recorder within))));
}

-- a count that rose from 0 isn't 0
pub some_rose : (before now : ℕ) → before ≡ 0 → Rose before now → 0 < now
some_rose before now none rose = grind (arith, none, rose)

-- a write failed before the link ended
pub recorded_last : (left later : Option (List Letter)) (before after : Option Ticking) (written kept : Option (List ℕ)) (failed : ℕ) → HearsLast left later before after written kept → Records (Err faults.Write) left later before after written kept failed
recorded_last left later before after written kept failed last = record {
  heard = last.heard;
  hears = last.hears;
  fits = omega (arith, last.fits, text_size last.heard);
  comes = last.breaks;
}

-- ---- with the head

breaks_after : (first text : List ℕ) (before mid now : Option (List ℕ)) → mid ≡ with_bytes before first → BreaksOff text mid now → BreaksOff (first ++ text) before now
breaks_after first text before mid now wrote breaks = record {
  prefix = (
    length first + breaks.prefix.0,
    record {
      fits = omega (arith, breaks.prefix.1.fits, length-append first text);
      written = breaks.prefix.1.written ∙ ap (λ w. with_bytes w (take breaks.prefix.0 text)) wrote ∙ with_bytes_twice before first (take breaks.prefix.0 text) ∙ ap (λ bytes. with_bytes before bytes) (sym (take-append-add first text breaks.prefix.0));
    },
  );
  few = omega (arith, breaks.few, length-append first text);
}

whole_after : (heard : List Heard) (before mid now : Option (List ℕ)) → mid ≡ with_bytes before head → now ≡ with_bytes mid (pieces_of heard) → now ≡ with_bytes before (text_of heard)
whole_after heard before mid now first rest = with_more before mid now head (pieces_of heard) first rest ∙ ap (λ (t : List ℕ). with_bytes before t) (sym (text_is heard))

broken_after : (heard : List Heard) (before mid now : Option (List ℕ)) → mid ≡ with_bytes before head → BreaksOff (pieces_of heard) mid now → BreaksOff (text_of heard) before now
broken_after heard before mid now first breaks = subst (λ (t : List ℕ). BreaksOff t before now) (sym (text_is heard)) (breaks_after head (pieces_of heard) before mid now first breaks)

comes_after : (result : Result ℕ Fault) (heard : List Heard) (later : Option (List Letter)) (before mid now : Option (List ℕ)) (failed : ℕ) → mid ≡ with_bytes before head → ComesTo result heard (pieces_of heard) later mid now failed → ComesTo result heard (text_of heard) later before now failed
comes_after (Ok count) heard later before mid now failed first comes = (comes.0, whole_after heard before mid now first comes.1, comes.2)
comes_after (Err faults.Read) heard later before mid now failed first (inl all) = inl (all.0, whole_after heard before mid now first all.1)
comes_after (Err faults.Read) heard later before mid now failed first (inr some) = inr (some.0, broken_after heard before mid now first some.1)
comes_after (Err faults.Write) heard later before mid now failed first comes = broken_after heard before mid now first comes
comes_after (Err faults.NoMemory) heard later before mid now failed first comes = absurd comes
comes_after (Err faults.Open) heard later before mid now failed first comes = absurd comes

-- the head was written, and then the link recorded with a new clock
pub filed : (result : Result ℕ Fault) (left later : Option (List Letter)) (readings : Option (ℕ → List ℕ)) (made : Option ℕ) (before after : Option Ticking) (written mid kept : Option (List ℕ)) (failed : ℕ) → before ≡ clock_told readings made → mid ≡ with_bytes written head → Records result left later before after mid kept failed → RecordsFile result left later readings made written kept failed
filed result left later readings made before after written mid kept failed clock first records = record {
  heard = records.heard;
  taken = records.hears.taken;
  left_is = records.hears.left_is;
  heard_are = records.hears.heard_are;
  clock = read_where records.heard readings made after (omega (arith, records.fits, text_size records.heard, few_heard records.heard)) (subst (λ (b : Option Ticking). Gives (map reading_of records.heard) b after) clock records.hears.gives);
  is_capture = record { limits = all_records records.heard records.hears.limits; spelled = refl; fits = records.fits };
  comes = comes_after result records.heard later written mid kept failed first records.comes;
}

-- the head wasn't written
pub filed_nothing : (left : Option (List Letter)) (readings : Option (ℕ → List ℕ)) (made : Option ℕ) (written kept : Option (List ℕ)) (failed : ℕ) → AppendsPrefix written kept head → RecordsFile (Err faults.Write) left left readings made written kept failed
filed_nothing left readings made written kept failed prefix = record {
  heard = [];
  taken = [];
  left_is = letters_none left;
  heard_are = refl;
  clock = read_where [] readings made (clock_told readings made) (omega arith) refl;
  is_capture = record { limits = tt; spelled = refl; fits = omega arith };
  comes = record { prefix = prefix; few = omega arith };
}
