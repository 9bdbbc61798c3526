-- What a recorder keeps of what was heard.
use Rattle.std.proofs.Common.{◌≡◌, ◌∙◌, ℕ, ◌+◌, ◌-◌, ◌≤◌, Bool, true, false, List, [], ◌∷◌, ◌++◌, length, take, Option, refl, sym, ap, subst, append_assoc, append-nil, arith}
use Rattle.std.proofs.Math.Seq.{take-append-add}
use Rattle.std.proofs.lemmas.List.{length-append, length-take}
use Rattle.std.proofs.lemmas.List.Concat.{flat_map-append}
use Rattle.tesla_capture.specs.Capture.{Arrives, Takes, limit, record_text}
use Rattle.tesla_capture.specs.Gathering.{Gathers, gathered}
use Rattle.tesla_desk.specs.Clocks.{Ticking}
use Rattle.tesla_desk.specs.Links.{after_letters}
use Rattle.tesla_desk.specs.Outside.{AppendsPrefix, with_bytes}
use Rattle.tesla_desk.specs.declared.link.Letter.{Letter}
use Rattle.tesla_desk.specs.declared.link.Letter.TheVariants as letters
use Rattle.tesla_desk.proofs.Told.{appends_none, with_bytes_twice, with_more}
use Rattle.tesla_run_capture.specs.Heard.{BreaksOff, Heard, held_most, longest, piece_of, pieces_of}
use Rattle.tesla_run_capture.specs.Recording.{HearsLast, HearsOn, Puts}
use Rattle.tesla_run_capture.specs.declared.recorder.Recorder.{Recorder}
use Rattle.tesla_run_capture.proofs.Given.{hears_more, hears_none, hears_quiet, read_more, read_none}

-- ---- pieces

-- the records of a datagram behind those of others
pub pieces_more : (heard : List Heard) (one : Heard) → pieces_of (heard ++ one ∷ []) ≡ pieces_of heard ++ piece_of one
pieces_more heard one = flat_map-append piece_of heard (one ∷ []) ∙ ap (λ (p : List ℕ). pieces_of heard ++ p) (append-nil (piece_of one))

-- how many bytes the records of a datagram have
pub piece_size : (one : Heard) → length (piece_of one) ≡ 12 + length one.bytes
piece_size one = omega (arith, length-append (record_text (Arrives one.reading one.bytes)) (record_text Takes))

-- ---- what is gathered

pub gathers_both : (before mid now : Option (List ℕ)) (held rest text piece : List ℕ) → Gathers before mid held text → Gathers mid now rest (held ++ piece) → Gathers before now rest (text ++ piece)
gathers_both before mid now held rest text piece first second = record {
  done = first.done ++ second.done;
  written = with_more before mid now first.done second.done first.written second.written;
  both = ap (λ (t : List ℕ). t ++ piece) first.both ∙ append_assoc first.done held piece ∙ ap (λ (t : List ℕ). first.done ++ t) second.both ∙ sym (append_assoc first.done second.done rest);
}

-- what is held was written where there was no room, and then a piece was put behind what is held now
pub gathers_behind : (before now : Option (List ℕ)) (held rest text piece : List ℕ) → Gathers before now held text → rest ≡ held ++ piece → Gathers before now rest (text ++ piece)
gathers_behind before now held rest text piece gathers is = record {
  done = gathers.done;
  written = gathers.written;
  both = ap (λ (t : List ℕ). t ++ piece) gathers.both ∙ append_assoc gathers.done held piece ∙ ap (λ (t : List ℕ). gathers.done ++ t) (sym is);
}

-- what is gathered was written
pub gathers_written : (before mid now : Option (List ℕ)) (held text : List ℕ) → Gathers before mid held text → now ≡ with_bytes mid held → now ≡ with_bytes before text
gathers_written before mid now held text gathers wrote =
    with_more before mid now gathers.done held gathers.written wrote ∙ ap (λ (t : List ℕ). with_bytes before t) (sym gathers.both)

-- a prefix of what is gathered and of more was written
pub breaks_behind : (before mid now : Option (List ℕ)) (held text more : List ℕ) → Gathers before mid held text → AppendsPrefix mid now (held ++ more) → length held + length more ≤ held_most → BreaksOff (text ++ more) before now
breaks_behind before mid now held text more gathers prefix few =
    let whole : gathers.done ++ (held ++ more) ≡ text ++ more = sym (append_assoc gathers.done held more) ∙ ap (λ (t : List ℕ). t ++ more) (sym gathers.both) in
    let size = length-append gathers.done (held ++ more) in
    let behind = length-append held more in
    subst (λ (t : List ℕ). BreaksOff t before now) whole (record {
      prefix = (
        length gathers.done + prefix.0,
        record {
          fits = omega (arith, prefix.1.fits, size);
          written = prefix.1.written ∙ ap (λ w. with_bytes w (take prefix.0 (held ++ more))) gathers.written ∙ with_bytes_twice before gathers.done (take prefix.0 (held ++ more)) ∙ ap (λ bytes. with_bytes before bytes) (sym (take-append-add gathers.done (held ++ more) prefix.0));
        },
      );
      few = omega (arith, size, behind, few);
    })

pub breaks_gathered : (before mid now : Option (List ℕ)) (held text : List ℕ) → Gathers before mid held text → AppendsPrefix mid now held → length held ≤ held_most → BreaksOff text before now
breaks_gathered before mid now held text gathers prefix few =
    subst (λ (t : List ℕ). BreaksOff t before now) (append-nil text)
    (breaks_behind before mid now held text [] gathers (subst (λ (t : List ℕ). AppendsPrefix mid now t) (sym (append-nil held)) prefix) (omega (arith, few)))

-- ---- a recorder

pub gathered_most : (recorder : Recorder) → recorder.gatherer.length ≤ 8192 → length (gathered recorder.gatherer) ≤ 8192
gathered_most recorder within = omega (arith, within, length-take recorder.gatherer.length recorder.gatherer.piece)

-- nothing was heard
pub hears_nothing : (read_for : ℕ → List ℕ → ℕ → Bool) (recorder : Recorder) (left : Option (List Letter)) (before : Option Ticking) (written : Option (List ℕ)) → gathered recorder.gatherer ≡ [] → recorder.count ≡ 0 → recorder.size ≡ 5 → HearsOn read_for recorder left left before before written written
hears_nothing read_for recorder left before written none count size = record {
  heard = [];
  hears = hears_none left before;
  read = read_none read_for;
  keeps = record { gathers = record { done = []; written = appends_none written; both = sym none }; count = count; size = size };
}

-- a datagram more
pub hears_put : (may_ask : ℕ → List ℕ → Bool) (read_for : ℕ → List ℕ → ℕ → Bool) (bytes : List ℕ) (old new : Recorder) (left now later : Option (List Letter)) (before then after : Option Ticking) (written mid kept : Option (List ℕ)) → HearsOn read_for old left now before then written mid → now ≡ after_letters (letters.Datagram bytes ∷ []) later → may_ask old.count bytes ≡ true → Puts may_ask read_for bytes old new mid kept then after true → HearsOn read_for new left later before after written kept
hears_put may_ask read_for bytes old new left now later before then after written mid kept on next asked puts =
    let one : Heard = record { reading = puts.reading; bytes = bytes } in
    let pieces = pieces_more on.heard one in record {
      heard = on.heard ++ one ∷ [];
      hears = hears_more on.heard one left now later before then after on.hears next puts.ticks puts.limits;
      read = read_more read_for on.heard one on.read (subst (λ (n : ℕ). read_for n bytes puts.reading ≡ true) on.keeps.count (puts.read old.count asked));
      keeps = record {
        gathers = subst (λ (t : List ℕ). Gathers written kept (gathered new.gatherer) t) (sym pieces) (gathers_both written mid kept (gathered old.gatherer) (gathered new.gatherer) (pieces_of on.heard) (piece_of one) on.keeps.gathers (puts.put refl));
        count = puts.count refl ∙ omega (arith, on.keeps.count, length-append on.heard (one ∷ []));
        size = puts.size refl ∙ omega (arith, on.keeps.size, ap (λ (t : List ℕ). length t) pieces, length-append (pieces_of on.heard) (piece_of one), piece_size one);
      };
    }

-- a datagram more, which wasn't put
pub hears_lost : (may_ask : ℕ → List ℕ → Bool) (read_for : ℕ → List ℕ → ℕ → Bool) (bytes : List ℕ) (old new : Recorder) (left now later : Option (List Letter)) (before then after : Option Ticking) (written mid kept : Option (List ℕ)) → length bytes ≤ 2048 → old.gatherer.length ≤ 8192 → old.size ≤ limit - longest → HearsOn read_for old left now before then written mid → now ≡ after_letters (letters.Datagram bytes ∷ []) later → Puts may_ask read_for bytes old new mid kept then after false → HearsLast left later before after written kept
hears_lost may_ask read_for bytes old new left now later before then after written mid kept short within room on next puts =
    let one : Heard = record { reading = puts.reading; bytes = bytes } in
    let pieces = pieces_more on.heard one in
    let held = gathered_most old within in record {
      heard = on.heard ++ one ∷ [];
      hears = hears_more on.heard one left now later before then after on.hears next puts.ticks puts.limits;
      fits = omega (arith, room, short, on.keeps.size, ap (λ (t : List ℕ). length t) pieces, length-append (pieces_of on.heard) (piece_of one), piece_size one);
      breaks = subst (λ (t : List ℕ). BreaksOff t written kept) (sym pieces) (breaks_behind written mid kept (gathered old.gatherer) (pieces_of on.heard) (piece_of one) on.keeps.gathers (puts.prefix refl) (omega (arith, held, piece_size one, short)));
    }

-- a quiet more, and what was gathered is written
pub hears_rest : (read_for : ℕ → List ℕ → ℕ → Bool) (old new : Recorder) (left now later : Option (List Letter)) (before after : Option Ticking) (written mid kept : Option (List ℕ)) → HearsOn read_for old left now before after written mid → now ≡ after_letters (letters.Quiet ∷ []) later → kept ≡ with_bytes mid (gathered old.gatherer) → gathered new.gatherer ≡ [] → new.count ≡ old.count → new.size ≡ old.size → HearsOn read_for new left later before after written kept
hears_rest read_for old new left now later before after written mid kept on next wrote empty count size = record {
  heard = on.heard;
  hears = hears_quiet on.heard left now later before after on.hears next;
  read = on.read;
  keeps = record {
    gathers = record { done = pieces_of on.heard; written = gathers_written written mid kept (gathered old.gatherer) (pieces_of on.heard) on.keeps.gathers wrote; both = sym (append-nil (pieces_of on.heard)) ∙ ap (λ (t : List ℕ). pieces_of on.heard ++ t) (sym empty) };
    count = count ∙ on.keeps.count;
    size = size ∙ on.keeps.size;
  };
}

-- a quiet more, and what was gathered isn't written
pub hears_broken : (read_for : ℕ → List ℕ → ℕ → Bool) (old : Recorder) (left now later : Option (List Letter)) (before after : Option Ticking) (written mid kept : Option (List ℕ)) → old.gatherer.length ≤ 8192 → old.size ≤ limit → HearsOn read_for old left now before after written mid → now ≡ after_letters (letters.Quiet ∷ []) later → AppendsPrefix mid kept (gathered old.gatherer) → HearsLast left later before after written kept
hears_broken read_for old left now later before after written mid kept within most on next prefix = record {
  heard = on.heard;
  hears = hears_quiet on.heard left now later before after on.hears next;
  fits = omega (arith, most, on.keeps.size);
  breaks = breaks_gathered written mid kept (gathered old.gatherer) (pieces_of on.heard) on.keeps.gathers prefix (omega (arith, gathered_most old within));
}
