-- The two laws: what is read is the frame's spelling, and each spelling of a frame is read.
use Rattle.std.proofs.Common.{◌≡◌, ℕ, zero, suc, ◌≤◌, true, ltb, eqb, List, [], ◌∷◌, ◌++◌, ◌&&◌, length, Option, Some, None, refl, sym, ap, subst, ◌∙◌, append_assoc, arith}
use Rattle.std.specs.Prelude.{bytes_eq, codes, option_map, IfSome}
use Rattle.std.specs.List.{flat_map}
use Rattle.std.specs.Int.{w16, w32, w64, to_be_bytes}
use Rattle.std.proofs.lemmas.Bool.{ltb-true, lt-ltb, eqb-true, and_parts, and_from}
use Rattle.std.proofs.lemmas.List.{append-nil, nil_from_length}
use Rattle.std.proofs.lemmas.Slice.Eq.{bytes_eq-Decides}
use Rattle.tesla_base.specs.Prefix.{AreBytes, parse_bytes, parse_number}
use Rattle.tesla_base.specs.Version.{number_of, version_of, most_chains}
use Rattle.tesla_base.specs.declared.version.Version.{Version}
use Rattle.tesla_base.specs.declared.version.Version.TheVariants.{One, Two}
use Rattle.tesla_base.proofs.Prefixes.{bind_some, test_some, some_is, bytes_take, bytes_again, Takes, Takes-then, field16, field32, field64}
use Rattle.tesla_frame.specs.declared.view.FrameView.{FrameView}
use Rattle.tesla_frame.specs.Shown.{shown}
use Rattle.tesla_frame.specs.declared.row.KeyRow.{KeyRow}
use Rattle.tesla_frame.specs.Frame.{DataFrame, KeysFrame, Frame, Data, Disclosure, IsTagRow, IsKeyRow, IsDataFrame, IsKeysFrame, IsFrame, HasLimits, ChainsRise, head, counts_text, frame_text, tag_row_text, key_row_text}
use Rattle.tesla_frame.specs.Reading.{tag_row_at, byte_at, key_row_at, rows_at, count_at, tag_length_at, payload_at, chains_rise, data_of, keys_of, body_of, version_at, frame_of}
use Rattle.tesla_frame.proofs.Spelled.{payload_text, payload_field, byte_field, within_field, length_text, length_field, tag_row_field, key_row_field, rows_take, rows_again}

-- ---- data frames

-- the number of rows is the count
le_from : (n count least : ℕ) → n ≡ count → least ≤ count → least ≤ n
le_from n count least same h = omega arith

le_to : (n count most : ℕ) → n ≡ count → count ≤ most → n ≤ most
le_to n count most same h = omega arith

-- what follows the payload
abbrev rows_text : DataFrame → List ℕ
rows_text f = length f.rows ∷ [] ++ (length_text f.version f.tag_length ++ flat_map tag_row_text f.rows)

-- what follows the kind
abbrev data_text : DataFrame → List ℕ
data_text f = to_be_bytes w64 f.stream.0 ++ (to_be_bytes w32 f.name.interval ++ (to_be_bytes w16 f.name.number ++ (payload_text f.payload ++ rows_text f)))

data_takes : (version : Version) (bytes : List ℕ) (f : DataFrame) → AreBytes bytes → data_of version bytes ≡ Some f → (bytes ≡ data_text f) × IsDataFrame f × (f.version ≡ version)
unfolding data_of
data_takes version bytes f fits e =
    let s0 = bind_some (parse_number w64 bytes) _ f e in
    let s1 = bind_some (parse_number w32 s0.0.1) _ f s0.2 in
    let s2 = bind_some (parse_number w16 s1.0.1) _ f s1.2 in
    let s3 = bind_some (payload_at s2.0.1) _ f s2.2 in
    let s4 = bind_some (count_at version s3.0.1) _ f s3.2 in
    let s5 = bind_some (tag_length_at version s4.0.1) _ f s4.2 in
    let s6 = bind_some (rows_at (tag_row_at s5.0.0) s4.0.0 s5.0.1) _ f s5.2 in
    let made : DataFrame = record { version = version; stream = record { 0 = s0.0.0 }; name = record { interval = s1.0.0; number = s2.0.0 }; payload = s3.0.0; tag_length = s5.0.0; rows = s6.0.0 } in
    let g = test_some (eqb (length s6.0.1) 0) (Some made) f s6.2 in
    let t0 = field64.takes bytes s0.0 fits s0.1 in
    let t1 = field32.takes s0.0.1 s1.0 t0.0.rest_fits s1.1 in
    let t2 = field16.takes s1.0.1 s2.0 t1.0.rest_fits s2.1 in
    let t3 = payload_field.takes s2.0.1 s3.0 t2.0.rest_fits s3.1 in
    let t4 = (within_field 1 (most_chains version)).takes s3.0.1 s4.0 t3.0.rest_fits s4.1 in
    let t5 = (length_field version).takes s4.0.1 s5.0 t4.0.rest_fits s5.1 in
    let t6 = rows_take (tag_row_at s5.0.0) tag_row_text (IsTagRow s5.0.0) (tag_row_field s5.0.0) s4.0.0 s5.0.1 s6.0 t5.0.rest_fits s6.1 in
    let nothing : s6.0.1 ≡ [] = nil_from_length s6.0.1 (eqb-true _ _ g.0) in
    let e6 : s5.0.1 ≡ flat_map tag_row_text s6.0.0 = t6.0.parts ∙ ap (λ (r : List ℕ). flat_map tag_row_text s6.0.0 ++ r) nothing ∙ append-nil (flat_map tag_row_text s6.0.0) in
    let e5 = t5.0.parts ∙ ap (λ (r : List ℕ). length_text version s5.0.0 ++ r) e6 in
    let e4 : s3.0.1 ≡ rows_text made = t4.0.parts ∙ ap (λ (r : List ℕ). s4.0.0 ∷ r) e5 ∙ ap (λ (k : ℕ). k ∷ (length_text version s5.0.0 ++ flat_map tag_row_text s6.0.0)) (sym t6.1) in
    let e3 = t3.0.parts ∙ ap (λ (r : List ℕ). payload_text s3.0.0 ++ r) e4 in
    let e2 = t2.0.parts ∙ ap (λ (r : List ℕ). to_be_bytes w16 s2.0.0 ++ r) e3 in
    let e1 = t1.0.parts ∙ ap (λ (r : List ℕ). to_be_bytes w32 s1.0.0 ++ r) e2 in
    let e0 : bytes ≡ data_text made = t0.0.parts ∙ ap (λ (r : List ℕ). to_be_bytes w64 s0.0.0 ++ r) e1 in
    let limits : IsDataFrame made = record {
      stream = t0.1;
      interval = t1.1;
      number = t2.1;
      payload = t3.1.0;
      bytes = t3.1.1;
      tag_length = t5.1;
      some = le_from (length s6.0.0) s4.0.0 1 t6.1 t4.1.0;
      few = le_to (length s6.0.0) s4.0.0 (most_chains version) t6.1 t4.1.1;
      rows = t6.2;
    } in
    subst (λ (x : DataFrame). (bytes ≡ data_text x) × IsDataFrame x × (x.version ≡ version)) (some_is made f g.1) (e0, limits, refl)

data_again : (f : DataFrame) → IsDataFrame f → data_of f.version (data_text f) ≡ Some f
unfolding data_of
data_again f fits =
    let rows : rows_at (tag_row_at f.tag_length) (length f.rows) (flat_map tag_row_text f.rows) ≡ Some (f.rows, []) = ap (rows_at (tag_row_at f.tag_length) (length f.rows)) (sym (append-nil (flat_map tag_row_text f.rows))) ∙ rows_again (tag_row_at f.tag_length) tag_row_text (IsTagRow f.tag_length) (tag_row_field f.tag_length) f.rows [] fits.rows in
    let r5 = flat_map tag_row_text f.rows in
    let r4 = length_text f.version f.tag_length ++ r5 in
    let r3 = rows_text f in
    let r2 = payload_text f.payload ++ r3 in
    let r1 = to_be_bytes w16 f.name.number ++ r2 in
    let r0 = to_be_bytes w32 f.name.interval ++ r1 in
    rw (
      field64.again f.stream.0 r0 fits.stream,
      field32.again f.name.interval r1 fits.interval,
      field16.again f.name.number r2 fits.number,
      payload_field.again f.payload r3 (fits.payload, fits.bytes),
      (within_field 1 (most_chains f.version)).again (length f.rows) r4 (fits.some, fits.few),
      (length_field f.version).again f.tag_length r5 fits.tag_length,
      rows,
    ) refl

-- ---- disclosure frames

pub rises : (rows : List KeyRow) → chains_rise rows ≡ true → ChainsRise rows
rises [] e = tt
rises (row ∷ []) e = tt
rises (row ∷ next ∷ rows) e =
    let tests = and_parts (ltb row.chain.0 next.chain.0) (chains_rise (next ∷ rows)) e in
    (ltb-true _ _ tests.0, rises (next ∷ rows) tests.1)

rises_again : (rows : List KeyRow) → ChainsRise rows → chains_rise rows ≡ true
rises_again [] h = refl
rises_again (row ∷ []) h = refl
rises_again (row ∷ next ∷ rows) h = and_from _ _ (lt-ltb _ _ h.0) (rises_again (next ∷ rows) h.1)

-- what follows the kind
abbrev keys_text : KeysFrame → List ℕ
keys_text f = to_be_bytes w64 f.stream.0 ++ (length f.rows ∷ [] ++ flat_map key_row_text f.rows)

keys_takes : (version : Version) (bytes : List ℕ) (f : KeysFrame) → AreBytes bytes → keys_of version bytes ≡ Some f → (bytes ≡ keys_text f) × IsKeysFrame f × (f.version ≡ version)
unfolding keys_of
keys_takes version bytes f fits e =
    let s0 = bind_some (parse_number w64 bytes) _ f e in
    let s4 = bind_some (count_at version s0.0.1) _ f s0.2 in
    let s5 = bind_some (rows_at key_row_at s4.0.0 s4.0.1) _ f s4.2 in
    let made : KeysFrame = record { version = version; stream = record { 0 = s0.0.0 }; rows = s5.0.0 } in
    let g = test_some (eqb (length s5.0.1) 0 && chains_rise s5.0.0) (Some made) f s5.2 in
    let tests = and_parts (eqb (length s5.0.1) 0) (chains_rise s5.0.0) g.0 in
    let t0 = field64.takes bytes s0.0 fits s0.1 in
    let t4 = (within_field 1 (most_chains version)).takes s0.0.1 s4.0 t0.0.rest_fits s4.1 in
    let t5 = rows_take key_row_at key_row_text IsKeyRow key_row_field s4.0.0 s4.0.1 s5.0 t4.0.rest_fits s5.1 in
    let nothing : s5.0.1 ≡ [] = nil_from_length s5.0.1 (eqb-true _ _ tests.0) in
    let e5 : s4.0.1 ≡ flat_map key_row_text s5.0.0 = t5.0.parts ∙ ap (λ (r : List ℕ). flat_map key_row_text s5.0.0 ++ r) nothing ∙ append-nil (flat_map key_row_text s5.0.0) in
    let e4 : s0.0.1 ≡ length s5.0.0 ∷ [] ++ flat_map key_row_text s5.0.0 = t4.0.parts ∙ ap (λ (r : List ℕ). s4.0.0 ∷ r) e5 ∙ ap (λ (k : ℕ). k ∷ flat_map key_row_text s5.0.0) (sym t5.1) in
    let e0 : bytes ≡ keys_text made = t0.0.parts ∙ ap (λ (r : List ℕ). to_be_bytes w64 s0.0.0 ++ r) e4 in
    let limits : IsKeysFrame made = record {
      stream = t0.1;
      some = le_from (length s5.0.0) s4.0.0 1 t5.1 t4.1.0;
      few = le_to (length s5.0.0) s4.0.0 (most_chains version) t5.1 t4.1.1;
      rows = t5.2;
      rise = rises s5.0.0 tests.1;
    } in
    subst (λ (x : KeysFrame). (bytes ≡ keys_text x) × IsKeysFrame x × (x.version ≡ version)) (some_is made f g.1) (e0, limits, refl)

keys_again : (f : KeysFrame) → IsKeysFrame f → keys_of f.version (keys_text f) ≡ Some f
unfolding keys_of
keys_again f fits =
    let rows : rows_at key_row_at (length f.rows) (flat_map key_row_text f.rows) ≡ Some (f.rows, []) = ap (rows_at key_row_at (length f.rows)) (sym (append-nil (flat_map key_row_text f.rows))) ∙ rows_again key_row_at key_row_text IsKeyRow key_row_field f.rows [] fits.rows in
    rw (field64.again f.stream.0 (length f.rows ∷ [] ++ flat_map key_row_text f.rows) fits.stream, (within_field 1 (most_chains f.version)).again (length f.rows) (flat_map key_row_text f.rows) (fits.some, fits.few), rows, rises_again f.rows fits.rise) refl

-- ---- versions

version_number : (number : ℕ) (version : Version) → version_of number ≡ Some version → number ≡ number_of version
version_number zero version e = absurd cc
version_number (suc zero) version e = ap number_of (some_is One version e)
version_number (suc (suc zero)) version e = ap number_of (some_is Two version e)
version_number (suc (suc (suc n))) version e = absurd cc

version_takes : (bytes : List ℕ) (x : Version × List ℕ) → AreBytes bytes → version_at bytes ≡ Some x → Takes bytes (head x.0) x.1
unfolding version_at
version_takes bytes x fits e =
    let s0 = bind_some (parse_bytes 4 bytes) _ x e in
    let s1 = bind_some (byte_at s0.0.1) _ x s0.2 in
    let s2 = bind_some (version_of s1.0.0) _ x s1.2 in
    let made : Version × List ℕ = (s2.0, s1.0.1) in
    let g = test_some (bytes_eq s0.0.0 (codes "TSLA")) (Some made) x s2.2 in
    let same : s0.0.0 ≡ codes "TSLA" = (bytes_eq-Decides s0.0.0 (codes "TSLA")).0 g.0 in
    let t0 = bytes_take 4 bytes s0.0 fits s0.1 in
    let t1 = byte_field.takes s0.0.1 s1.0 t0.0.rest_fits s1.1 in
    let both = Takes-then bytes s0.0.0 s0.0.1 (s1.0.0 ∷ []) s1.0.1 t0.0 t1.0 in
    let here : Takes bytes (head s2.0) s1.0.1 = subst (λ (prefix : List ℕ). Takes bytes prefix s1.0.1) (ap (λ (magic : List ℕ). magic ++ s1.0.0 ∷ []) same ∙ ap (λ (n : ℕ). codes "TSLA" ++ n ∷ []) (version_number s1.0.0 s2.0 s2.1)) both in
    subst (λ (p : Version × List ℕ). Takes bytes (head p.0) p.1) (some_is made x g.1) here

version_again : (version : Version) (rest : List ℕ) → version_at (head version ++ rest) ≡ Some (version, rest)
unfolding version_at byte_at
version_again One rest = rw (bytes_again 4 (codes "TSLA") (1 ∷ rest) refl) refl
version_again Two rest = rw (bytes_again 4 (codes "TSLA") (2 ∷ rest) refl) refl

-- ---- frames

-- the frame's version
abbrev version_in : Frame → Version
version_in (Data f) = f.version
version_in (Disclosure f) = f.version

-- what follows the head
abbrev body_text : Frame → List ℕ
body_text (Data f) = 1 ∷ data_text f
body_text (Disclosure f) = 2 ∷ keys_text f

counts_are : (version : Version) (count size : ℕ) (rest : List ℕ) → counts_text version count size ++ rest ≡ count ∷ [] ++ (length_text version size ++ rest)
counts_are One count size rest = refl
counts_are Two count size rest = refl

frame_text_is : (f : Frame) → frame_text f ≡ head (version_in f) ++ body_text f
frame_text_is (Data f) = simp append_assoc (simp counts_are)
frame_text_is (Disclosure f) = simp append_assoc

body_takes : (version : Version) (bytes : List ℕ) (f : Frame) → AreBytes bytes → body_of version bytes ≡ Some f → (bytes ≡ body_text f) × HasLimits f × (version_in f ≡ version)
unfolding body_of
body_takes version [] f fits e = absurd cc
body_takes version (zero ∷ bytes) f fits e = absurd cc
body_takes version (suc zero ∷ bytes) f fits e =
    let s = bind_some (data_of version bytes) (λ x. Some (Data x)) f e in
    let t = data_takes version bytes s.0 fits.1 s.1 in
    subst (λ (x : Frame). (1 ∷ bytes ≡ body_text x) × HasLimits x × (version_in x ≡ version)) (some_is (Data s.0) f s.2) (ap (λ (r : List ℕ). 1 ∷ r) t.0, t.1, t.2)
body_takes version (suc (suc zero) ∷ bytes) f fits e =
    let s = bind_some (keys_of version bytes) (λ x. Some (Disclosure x)) f e in
    let t = keys_takes version bytes s.0 fits.1 s.1 in
    subst (λ (x : Frame). (2 ∷ bytes ≡ body_text x) × HasLimits x × (version_in x ≡ version)) (some_is (Disclosure s.0) f s.2) (ap (λ (r : List ℕ). 2 ∷ r) t.0, t.1, t.2)
body_takes version (suc (suc (suc b)) ∷ bytes) f fits e = absurd cc

body_again : (f : Frame) → HasLimits f → body_of (version_in f) (body_text f) ≡ Some f
unfolding body_of
body_again (Data f) fits = rw (data_again f fits) refl
body_again (Disclosure f) fits = rw (keys_again f fits) refl

pub frame_takes : (bytes : List ℕ) (f : Frame) → AreBytes bytes → frame_of bytes ≡ Some f → IsFrame bytes f
unfolding frame_of
frame_takes bytes f fits e =
    let s = bind_some (version_at bytes) (λ version. body_of version.0 version.1) f e in
    let prefix = version_takes bytes s.0 fits s.1 in
    let t = body_takes s.0.0 s.0.1 f prefix.rest_fits s.2 in
    let whole : bytes ≡ head (version_in f) ++ body_text f = prefix.parts ∙ ap (λ (r : List ℕ). head s.0.0 ++ r) t.0 ∙ ap (λ (v : Version). head v ++ body_text f) (sym t.2) in
    record { limits = t.1; spelled = whole ∙ sym (frame_text_is f) }

pub frame_again : (bytes : List ℕ) (f : Frame) → IsFrame bytes f → frame_of bytes ≡ Some f
unfolding frame_of
frame_again bytes f is =
    let step : frame_of (head (version_in f) ++ body_text f) ≡ body_of (version_in f) (body_text f) = rw (version_again (version_in f) (body_text f)) refl in
    ap frame_of (is.spelled ∙ frame_text_is f) ∙ step ∙ body_again f is.limits

pub is_found : (bytes : List ℕ) (r : Option FrameView) → AreBytes bytes → option_map shown r ≡ frame_of bytes → IfSome r (λ view. IsFrame bytes (shown view))
is_found bytes (Some view) fits e = frame_takes bytes (shown view) fits (sym e)
is_found bytes None fits e = tt
