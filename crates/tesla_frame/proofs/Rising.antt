-- The chains of a disclosure that is read rise, whatever list it is read from.
use Rattle.std.proofs.Common.{◌≡◌, ℕ, zero, suc, eqb, ◌&&◌, List, [], ◌∷◌, length, Some, subst}
use Rattle.std.specs.Int.{w64}
use Rattle.std.proofs.lemmas.Bool.{and_parts}
use Rattle.tesla_base.specs.Prefix.{parse_number}
use Rattle.tesla_base.specs.declared.version.Version.{Version}
use Rattle.tesla_base.proofs.Prefixes.{bind_some, test_some, some_is}
use Rattle.tesla_frame.specs.Frame.{KeysFrame, Data, Disclosure, ChainsRise}
use Rattle.tesla_frame.specs.Reading.{key_row_at, rows_at, count_at, chains_rise, data_of, keys_of, body_of, version_at, frame_of}
use Rattle.tesla_frame.proofs.Both.{rises}

keys_rise : (version : Version) (bytes : List ℕ) (f : KeysFrame) → keys_of version bytes ≡ Some f → ChainsRise f.rows
unfolding keys_of
keys_rise version bytes f e =
    let s0 = bind_some (parse_number w64 bytes) _ f e in
    let s1 = bind_some (count_at version s0.0.1) _ f s0.2 in
    let s2 = bind_some (rows_at key_row_at s1.0.0 s1.0.1) _ f s1.2 in
    let made : KeysFrame = record { version = version; stream = record { 0 = s0.0.0 }; rows = s2.0.0 } in
    let g = test_some (eqb (length s2.0.1) 0 && chains_rise s2.0.0) (Some made) f s2.2 in
    let tests = and_parts (eqb (length s2.0.1) 0) (chains_rise s2.0.0) g.0 in
    subst (λ (x : KeysFrame). ChainsRise x.rows) (some_is made f g.1) (rises s2.0.0 tests.1)

body_rises : (version : Version) (bytes : List ℕ) (f : KeysFrame) → body_of version bytes ≡ Some (Disclosure f) → ChainsRise f.rows
unfolding body_of
body_rises version [] f e = absurd cc
body_rises version (zero ∷ bytes) f e = absurd cc
body_rises version (suc zero ∷ bytes) f e =
    let s = bind_some (data_of version bytes) (λ x. Some (Data x)) (Disclosure f) e in
    absurd (cc (some_is (Data s.0) (Disclosure f) s.2))
body_rises version (suc (suc zero) ∷ bytes) f e =
    let s = bind_some (keys_of version bytes) (λ x. Some (Disclosure x)) (Disclosure f) e in
    let whole : Disclosure s.0 ≡ Disclosure f = some_is (Disclosure s.0) (Disclosure f) s.2 in
    let same : s.0 ≡ f = cc in
    subst (λ (x : KeysFrame). ChainsRise x.rows) same (keys_rise version bytes s.0 s.1)
body_rises version (suc (suc (suc b)) ∷ bytes) f e = absurd cc

-- so a disclosure has at most one key a chain
pub disclosed_rise : (bytes : List ℕ) (f : KeysFrame) → frame_of bytes ≡ Some (Disclosure f) → ChainsRise f.rows
unfolding frame_of
disclosed_rise bytes f e =
    let s = bind_some (version_at bytes) (λ version. body_of version.0 version.1) (Disclosure f) e in
    body_rises s.0.0 s.0.1 f s.2
