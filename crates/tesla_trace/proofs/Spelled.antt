-- A part of an entry that is read is the one that was written, and what was written is read again.
use Rattle.std.proofs.Common.{◌≡◌, ℕ, zero, suc, ◌<◌, ◌≤◌, ◌^◌, Bool, true, false, ltb, List, [], ◌∷◌, ◌++◌, length, Option, Some, None, refl, sym, ap, subst, ◌∙◌, append_assoc, arith}
use Rattle.std.specs.Prelude.{if◌then◌else◌}
use Rattle.std.specs.Int.{Width, w16, w32, w64, to_be_bytes}
use Rattle.std.proofs.lemmas.Bool.{ltb-false, le-ltb}
use Rattle.tesla_base.specs.Prefix.{AreBytes, parse_bytes, parse_number}
use Rattle.tesla_base.specs.declared.release.Head.{Head}
use Rattle.tesla_base.proofs.Prefixes.{Takes, Takes-then, IsField, bytes_take, bytes_again, field16, field32, field64}
use Rattle.tesla_capture.specs.Release.{release_text}
use Rattle.tesla_fitting.specs.declared.verdict.Verdict.{Verdict}
use Rattle.tesla_fitting.specs.declared.verdict.Verdict.TheVariants as verdicts
use Rattle.tesla_receiver.specs.Entries.{Arrival, Entry}
use Rattle.tesla_receiver.specs.declared.history.Entry.TheVariants.{Arrived, Taken, Ended}
use Rattle.tesla_state.specs.declared.replies.Reply.{Reply}
use Rattle.tesla_state.specs.declared.replies.Reply.TheVariants.{Given, Empty, Over}
use Rattle.tesla_trace.specs.declared.kind.EntryFault.TheVariants.{TooLong}
use Rattle.tesla_trace.specs.Parsing.{Part, Wrong, Read, ◌>>=◌, part_of, byte_part, number_part, counted_part, some_bound_part, bound_by, future_part, foreign_part, bad_key_part, kept_part, verdict_by, verdict_part, given_part, reply_by, reply_part, arrival_part, take_part, end_part, entry_by, entry_part}
use Rattle.tesla_trace.specs.Grammar.{VerdictFits, GivenFits, ReplyFits, ArrivalFits, IsTraceEntry}
use Rattle.tesla_trace.specs.Trace.{verdict_text, reply_text, entry_text}
use Rattle.tesla_trace.proofs.Steady.{read_is, then_read, part_read}

-- ---- bytes, numbers, and bytes behind their number

byte_takes : (bytes : List ℕ) (x : ℕ × List ℕ) → AreBytes bytes → byte_part bytes ≡ Read x → Takes bytes (x.0 ∷ []) x.1 × (x.0 < 256)
unfolding byte_part
byte_takes [] x fits e = absurd cc
byte_takes (b ∷ bytes) x fits e =
    subst (λ (p : ℕ × List ℕ). Takes (b ∷ bytes) (p.0 ∷ []) p.1 × (p.0 < 256)) (read_is (b, bytes) x e) (record { parts = refl; rest_fits = fits.1 }, fits.0)

number_takes : (w : Width) (limit : ℕ) → IsField (parse_number w) (to_be_bytes w) (λ n. n < limit) → (bytes : List ℕ) (x : ℕ × List ℕ) → AreBytes bytes → number_part w bytes ≡ Read x → Takes bytes (to_be_bytes w x.0) x.1 × (x.0 < limit)
unfolding number_part
number_takes w limit field bytes x fits e = field.takes bytes x fits (part_read (parse_number w bytes) x e)

number_again : (w : Width) (limit : ℕ) → IsField (parse_number w) (to_be_bytes w) (λ n. n < limit) → (n : ℕ) (rest : List ℕ) → n < limit → number_part w (to_be_bytes w n ++ rest) ≡ Read (n, rest)
unfolding number_part
number_again w limit field n rest below = ap (λ (o : Option (ℕ × List ℕ)). part_of o) (field.again n rest below)

-- what is behind a number that was read
record Counted (most : ℕ) (bytes : List ℕ) (x : List ℕ × List ℕ) : Type 0 where
  takes : Takes bytes (to_be_bytes w16 (length x.0) ++ x.0) x.1
  few : length x.0 ≤ most
  bytes_are : AreBytes x.0

counted_behind : (most n : ℕ) (b : Bool) (rest : List ℕ) (x : List ℕ × List ℕ) → ltb most n ≡ b → AreBytes rest → (if b then Wrong TooLong else part_of (parse_bytes n rest)) ≡ Read x
    → Takes rest x.0 x.1 × (length x.0 ≡ n) × AreBytes x.0 × (n ≤ most)
counted_behind most n true rest x is fits e = absurd cc
counted_behind most n false rest x is fits e =
    let t = bytes_take n rest x fits (part_read (parse_bytes n rest) x e) in
    (t.0, t.1, t.2, ltb-false most n is)

counted_takes : (most : ℕ) (bytes : List ℕ) (x : List ℕ × List ℕ) → AreBytes bytes → counted_part most bytes ≡ Read x → Counted most bytes x
unfolding counted_part
counted_takes most bytes x fits e =
    let a = then_read (number_part w16 bytes) _ x e in
    let s = number_takes w16 (2 ^ 16) field16 bytes a.0 fits a.1 in
    let t = counted_behind most a.0.0 (ltb most a.0.0) a.0.1 x refl s.0.rest_fits a.2 in
    record {
      takes = Takes-then bytes (to_be_bytes w16 (length x.0)) a.0.1 x.0 x.1 (subst (λ (n : ℕ). Takes bytes (to_be_bytes w16 n) a.0.1) (sym t.1) s.0) t.0;
      few = omega (arith, t.1, t.3);
      bytes_are = t.2;
    }

then_again : {A B : Type 0} (o : Part A) (f : A × List ℕ → Part B) (x : A × List ℕ) (y : Part B) → o ≡ Read x → f x ≡ y → (o >>= f) ≡ y
then_again {A = A} o f x y e h = ap (λ (p : Part A). p >>= f) e ∙ h

counted_again : (most n : ℕ) (bytes rest : List ℕ) → most < 65536 → n ≡ length bytes → length bytes ≤ most → counted_part most (to_be_bytes w16 n ++ (bytes ++ rest)) ≡ Read (bytes, rest)
unfolding counted_part
counted_again most n bytes rest small is few =
    then_again (number_part w16 (to_be_bytes w16 n ++ (bytes ++ rest))) _ (n, bytes ++ rest) (Read (bytes, rest)) (number_again w16 (2 ^ 16) field16 n (bytes ++ rest) (omega (arith, small, is, few)))
    (ap (λ (b : Bool). if b then Wrong TooLong else part_of (parse_bytes n (bytes ++ rest))) (le-ltb most n (omega (arith, is, few))) ∙ ap (λ (o : Option (List ℕ × List ℕ)). part_of o) (bytes_again n bytes rest (sym is)))

-- ---- what stands behind a first byte

record Behind {A : Type 0} (text_of : A → List ℕ) (Fits : A → Type 0) (first : ℕ) (bytes : List ℕ) (x : A × List ℕ) : Type 0 where
  text : List ℕ
  takes : Takes bytes text x.1
  spelled : first ∷ text ≡ text_of x.0
  fits : Fits x.0

-- with nothing behind it
bare_behind : {A : Type 0} (text_of : A → List ℕ) (Fits : A → Type 0) (first : ℕ) (bytes : List ℕ) (value : A) (x : A × List ℕ) → AreBytes bytes → first ∷ [] ≡ text_of value → Fits value → Read (value, bytes) ≡ Read x → Behind text_of Fits first bytes x
bare_behind {A = A} text_of Fits first bytes value x are spelled fits e =
    subst (λ (p : A × List ℕ). Behind text_of Fits first bytes p) (read_is (value, bytes) x e)
    (record { text = []; takes = record { parts = refl; rest_fits = are }; spelled = spelled; fits = fits })

with_first : {A : Type 0} (text_of : A → List ℕ) (Fits : A → Type 0) (first : ℕ) (bytes : List ℕ) (x : A × List ℕ) → Behind text_of Fits first bytes x → Takes (first ∷ bytes) (text_of x.0) x.1 × Fits x.0
with_first text_of Fits first bytes x b =
    (record { parts = ap (λ (t : List ℕ). first ∷ t) b.takes.parts ∙ ap (λ (t : List ℕ). t ++ x.1) b.spelled; rest_fits = b.takes.rest_fits }, b.fits)

-- ---- verdicts

foreign_takes : (bytes : List ℕ) (x : Verdict × List ℕ) → AreBytes bytes → foreign_part bytes ≡ Read x → Behind verdict_text VerdictFits 2 bytes x
unfolding foreign_part
foreign_takes bytes x fits e =
    let a = then_read (number_part w64 bytes) _ x e in
    let s = number_takes w64 (2 ^ 64) field64 bytes a.0 fits a.1 in
    let made : Verdict × List ℕ = (verdicts.Foreign (record { 0 = a.0.0 }), a.0.1) in
    subst (λ (p : Verdict × List ℕ). Behind verdict_text VerdictFits 2 bytes p) {x = made} (read_is made x a.2) (record { text = to_be_bytes w64 a.0.0; takes = s.0; spelled = refl; fits = s.1 })

bound_takes : (flag : ℕ) (bytes : List ℕ) (x : Verdict × List ℕ) → AreBytes bytes → bound_by flag bytes ≡ Read x → Behind (λ v. verdict_text v) (λ v. VerdictFits v) 4 (flag ∷ bytes) x
unfolding bound_by some_bound_part
bound_takes zero bytes x fits e =
    subst (λ (p : Verdict × List ℕ). Behind verdict_text VerdictFits 4 (0 ∷ bytes) p) {x = (verdicts.Future None, bytes)} (read_is (verdicts.Future None, bytes) x e)
    (record { text = 0 ∷ []; takes = record { parts = refl; rest_fits = fits }; spelled = refl; fits = tt })
bound_takes (suc zero) bytes x fits e =
    let a = then_read (number_part w64 bytes) _ x e in
    let s = number_takes w64 (2 ^ 64) field64 bytes a.0 fits a.1 in
    let made : Verdict × List ℕ = (verdicts.Future (Some a.0.0), a.0.1) in
    subst (λ (p : Verdict × List ℕ). Behind verdict_text VerdictFits 4 (1 ∷ bytes) p) {x = made} (read_is made x a.2)
    (record { text = 1 ∷ to_be_bytes w64 a.0.0; takes = record { parts = ap (λ (t : List ℕ). 1 ∷ t) s.0.parts; rest_fits = s.0.rest_fits }; spelled = refl; fits = s.1 })
bound_takes (suc (suc flag)) bytes x fits e = absurd cc

future_takes : (bytes : List ℕ) (x : Verdict × List ℕ) → AreBytes bytes → future_part bytes ≡ Read x → Behind verdict_text VerdictFits 4 bytes x
unfolding future_part byte_part
future_takes [] x fits e = absurd cc
future_takes (flag ∷ bytes) x fits e = bound_takes flag bytes x fits.1 e

bad_key_takes : (bytes : List ℕ) (x : Verdict × List ℕ) → AreBytes bytes → bad_key_part bytes ≡ Read x → Behind verdict_text VerdictFits 5 bytes x
unfolding bad_key_part
bad_key_takes bytes x fits e =
    let a = then_read (byte_part bytes) _ x e in
    let s = byte_takes bytes a.0 fits a.1 in
    let made : Verdict × List ℕ = (verdicts.BadKey (record { 0 = a.0.0 }), a.0.1) in
    subst (λ (p : Verdict × List ℕ). Behind verdict_text VerdictFits 5 bytes p) {x = made} (read_is made x a.2) (record { text = a.0.0 ∷ []; takes = s.0; spelled = refl; fits = s.1 })

kept_takes : (bytes : List ℕ) (x : Verdict × List ℕ) → AreBytes bytes → kept_part bytes ≡ Read x → Behind verdict_text VerdictFits 9 bytes x
unfolding kept_part
kept_takes bytes x fits e =
    let a = then_read (byte_part bytes) _ x e in
    let s = byte_takes bytes a.0 fits a.1 in
    let made : Verdict × List ℕ = (verdicts.Kept a.0.0, a.0.1) in
    subst (λ (p : Verdict × List ℕ). Behind verdict_text VerdictFits 9 bytes p) {x = made} (read_is made x a.2) (record { text = a.0.0 ∷ []; takes = s.0; spelled = refl; fits = s.1 })

verdict_by_takes : (number : ℕ) (bytes : List ℕ) (x : Verdict × List ℕ) → AreBytes bytes → verdict_by number bytes ≡ Read x → Behind verdict_text VerdictFits number bytes x
unfolding verdict_by
verdict_by_takes zero bytes x fits e = absurd cc
verdict_by_takes (suc zero) bytes x fits e = bare_behind verdict_text VerdictFits 1 bytes verdicts.Malformed x fits refl tt e
verdict_by_takes (suc (suc zero)) bytes x fits e = foreign_takes bytes x fits e
verdict_by_takes (suc (suc (suc zero))) bytes x fits e = bare_behind verdict_text VerdictFits 3 bytes verdicts.Misfit x fits refl tt e
verdict_by_takes (suc (suc (suc (suc zero)))) bytes x fits e = future_takes bytes x fits e
verdict_by_takes (suc (suc (suc (suc (suc zero))))) bytes x fits e = bad_key_takes bytes x fits e
verdict_by_takes (suc (suc (suc (suc (suc (suc zero)))))) bytes x fits e = bare_behind verdict_text VerdictFits 6 bytes verdicts.Late x fits refl tt e
verdict_by_takes (suc (suc (suc (suc (suc (suc (suc zero))))))) bytes x fits e = bare_behind verdict_text VerdictFits 7 bytes verdicts.Repeat x fits refl tt e
verdict_by_takes (suc (suc (suc (suc (suc (suc (suc (suc zero)))))))) bytes x fits e = bare_behind verdict_text VerdictFits 8 bytes verdicts.Full x fits refl tt e
verdict_by_takes (suc (suc (suc (suc (suc (suc (suc (suc (suc zero))))))))) bytes x fits e = kept_takes bytes x fits e
verdict_by_takes (suc (suc (suc (suc (suc (suc (suc (suc (suc (suc zero)))))))))) bytes x fits e = bare_behind verdict_text VerdictFits 10 bytes verdicts.Keys x fits refl tt e
verdict_by_takes (suc (suc (suc (suc (suc (suc (suc (suc (suc (suc (suc number))))))))))) bytes x fits e = absurd cc

verdict_takes : (bytes : List ℕ) (x : Verdict × List ℕ) → AreBytes bytes → verdict_part bytes ≡ Read x → Takes bytes (verdict_text x.0) x.1 × VerdictFits x.0
unfolding verdict_part byte_part
verdict_takes [] x fits e = absurd cc
verdict_takes (number ∷ bytes) x fits e = with_first verdict_text VerdictFits number bytes x (verdict_by_takes number bytes x fits.1 e)

verdict_again : (verdict : Verdict) (rest : List ℕ) → VerdictFits verdict → verdict_part (verdict_text verdict ++ rest) ≡ Read (verdict, rest)
unfolding verdict_part byte_part verdict_by future_part bound_by some_bound_part foreign_part bad_key_part kept_part
verdict_again verdicts.Malformed rest fits = refl
verdict_again (verdicts.Foreign stream) rest fits =
    then_again (number_part w64 (to_be_bytes w64 stream.0 ++ rest)) (λ s. Read (verdicts.Foreign (record { 0 = s.0 }), s.1)) (stream.0, rest) (Read (verdicts.Foreign stream, rest)) (number_again w64 (2 ^ 64) field64 stream.0 rest fits) refl
verdict_again verdicts.Misfit rest fits = refl
verdict_again (verdicts.Future None) rest fits = refl
verdict_again (verdicts.Future (Some bound)) rest fits =
    then_again (number_part w64 (to_be_bytes w64 bound ++ rest)) (λ b. Read (verdicts.Future (Some b.0), b.1)) (bound, rest) (Read (verdicts.Future (Some bound), rest)) (number_again w64 (2 ^ 64) field64 bound rest fits) refl
verdict_again (verdicts.BadKey chain) rest fits = refl
verdict_again verdicts.Late rest fits = refl
verdict_again verdicts.Repeat rest fits = refl
verdict_again verdicts.Full rest fits = refl
verdict_again (verdicts.Kept chains) rest fits = refl
verdict_again verdicts.Keys rest fits = refl

-- ---- answers to takes

given_takes : (bytes : List ℕ) (x : Reply × List ℕ) → AreBytes bytes → given_part bytes ≡ Read x → Behind reply_text ReplyFits 2 bytes x
unfolding given_part
given_takes bytes x fits e =
    let a = then_read (number_part w64 bytes) _ x e in
    let b = then_read (number_part w32 a.0.1) _ x a.2 in
    let c = then_read (number_part w16 b.0.1) _ x b.2 in
    let d = then_read (byte_part c.0.1) _ x c.2 in
    let f = then_read (counted_part 1200 d.0.1) _ x d.2 in
    let s = number_takes w64 (2 ^ 64) field64 bytes a.0 fits a.1 in
    let t = number_takes w32 (2 ^ 32) field32 a.0.1 b.0 s.0.rest_fits b.1 in
    let u = number_takes w16 (2 ^ 16) field16 b.0.1 c.0 t.0.rest_fits c.1 in
    let v = byte_takes c.0.1 d.0 u.0.rest_fits d.1 in
    let w = counted_takes 1200 d.0.1 f.0 v.0.rest_fits f.1 in
    let head : Head = record { position = a.0.0; interval = b.0.0; number = c.0.0; chain = d.0.0; length = length f.0.0 } in
    let e4 = Takes-then c.0.1 (d.0.0 ∷ []) d.0.1 (to_be_bytes w16 (length f.0.0) ++ f.0.0) f.0.1 v.0 w.takes in
    let e3 = Takes-then b.0.1 (to_be_bytes w16 c.0.0) c.0.1 _ f.0.1 u.0 e4 in
    let e2 = Takes-then a.0.1 (to_be_bytes w32 b.0.0) b.0.1 _ f.0.1 t.0 e3 in
    let e1 : Takes bytes (release_text head f.0.0) f.0.1 = Takes-then bytes (to_be_bytes w64 a.0.0) a.0.1 _ f.0.1 s.0 e2 in
    let made : Reply × List ℕ = (Given head f.0.0, f.0.1) in
    subst (λ (p : Reply × List ℕ). Behind reply_text ReplyFits 2 bytes p) {x = made} (read_is made x f.2) (record {
      text = release_text head f.0.0;
      takes = e1;
      spelled = refl;
      fits = record { position = s.1; interval = t.1; number = u.1; chain = v.1; length_is = refl; few = w.few; bytes = w.bytes_are };
    })

reply_by_takes : (code : ℕ) (bytes : List ℕ) (x : Reply × List ℕ) → AreBytes bytes → reply_by code bytes ≡ Read x → Behind reply_text ReplyFits code bytes x
unfolding reply_by
reply_by_takes zero bytes x fits e = bare_behind reply_text ReplyFits 0 bytes Empty x fits refl tt e
reply_by_takes (suc zero) bytes x fits e = bare_behind reply_text ReplyFits 1 bytes Over x fits refl tt e
reply_by_takes (suc (suc zero)) bytes x fits e = given_takes bytes x fits e
reply_by_takes (suc (suc (suc number))) bytes x fits e = absurd cc

reply_takes : (bytes : List ℕ) (x : Reply × List ℕ) → AreBytes bytes → reply_part bytes ≡ Read x → Takes bytes (reply_text x.0) x.1 × ReplyFits x.0
unfolding reply_part byte_part
reply_takes [] x fits e = absurd cc
reply_takes (code ∷ bytes) x fits e = with_first reply_text ReplyFits code bytes x (reply_by_takes code bytes x fits.1 e)

given_again : (head : Head) (payload rest : List ℕ) → GivenFits head payload → given_part (release_text head payload ++ rest) ≡ Read (Given head payload, rest)
unfolding given_part byte_part
given_again head payload rest fits =
    let t5 : List ℕ = to_be_bytes w16 head.length ++ (payload ++ rest) in
    let t4 : List ℕ = head.chain ∷ t5 in
    let t3 : List ℕ = to_be_bytes w16 head.number ++ t4 in
    let t2 : List ℕ = to_be_bytes w32 head.interval ++ t3 in
    let y : Part Reply = Read (Given head payload, rest) in
    then_again (number_part w64 (to_be_bytes w64 head.position ++ t2)) _ (head.position, t2) y (number_again w64 (2 ^ 64) field64 head.position t2 fits.position) (
    then_again (number_part w32 t2) _ (head.interval, t3) y (number_again w32 (2 ^ 32) field32 head.interval t3 fits.interval) (
    then_again (number_part w16 t3) _ (head.number, t4) y (number_again w16 (2 ^ 16) field16 head.number t4 fits.number) (
    then_again (counted_part 1200 t5) _ (payload, rest) y (counted_again 1200 head.length payload rest (omega arith) fits.length_is fits.few)
    (ap (λ (n : ℕ). Read (Given (record { position = head.position; interval = head.interval; number = head.number; chain = head.chain; length = n }) payload, rest)) (sym fits.length_is)))))

reply_again : (reply : Reply) (rest : List ℕ) → ReplyFits reply → reply_part (reply_text reply ++ rest) ≡ Read (reply, rest)
unfolding reply_part byte_part reply_by
reply_again Empty rest fits = refl
reply_again Over rest fits = refl
reply_again (Given head payload) rest fits = given_again head payload rest fits

-- ---- entries

arrival_takes : (bytes : List ℕ) (x : Entry × List ℕ) → AreBytes bytes → arrival_part bytes ≡ Read x → Behind entry_text IsTraceEntry 1 bytes x
unfolding arrival_part
arrival_takes bytes x fits e =
    let a = then_read (byte_part bytes) _ x e in
    let b = then_read (number_part w64 a.0.1) _ x a.2 in
    let c = then_read (counted_part 2048 b.0.1) _ x b.2 in
    let d = then_read (verdict_part c.0.1) _ x c.2 in
    let s = byte_takes bytes a.0 fits a.1 in
    let t = number_takes w64 (2 ^ 64) field64 a.0.1 b.0 s.0.rest_fits b.1 in
    let u = counted_takes 2048 b.0.1 c.0 t.0.rest_fits c.1 in
    let v = verdict_takes c.0.1 d.0 u.takes.rest_fits d.1 in
    let arrival : Arrival = record { ingest = a.0.0; reading = b.0.0; bytes = c.0.0; verdict = d.0.0 } in
    let e3 = Takes-then b.0.1 (to_be_bytes w16 (length c.0.0) ++ c.0.0) c.0.1 (verdict_text d.0.0) d.0.1 u.takes v.0 in
    let e2 = Takes-then a.0.1 (to_be_bytes w64 b.0.0) b.0.1 _ d.0.1 t.0 e3 in
    let e1 : Takes bytes (a.0.0 ∷ to_be_bytes w64 b.0.0 ++ to_be_bytes w16 (length c.0.0) ++ c.0.0 ++ verdict_text d.0.0) d.0.1 = Takes-then bytes (a.0.0 ∷ []) a.0.1 _ d.0.1 s.0 e2 in
    let made : Entry × List ℕ = (Arrived arrival, d.0.1) in
    subst (λ (p : Entry × List ℕ). Behind entry_text IsTraceEntry 1 bytes p) {x = made} (read_is made x d.2) (record {
      text = a.0.0 ∷ to_be_bytes w64 b.0.0 ++ to_be_bytes w16 (length c.0.0) ++ c.0.0 ++ verdict_text d.0.0;
      takes = e1;
      spelled = refl;
      fits = record { ingest = s.1; reading = t.1; few = u.few; bytes = u.bytes_are; verdict = v.1 };
    })

take_takes : (bytes : List ℕ) (x : Entry × List ℕ) → AreBytes bytes → take_part bytes ≡ Read x → Behind entry_text IsTraceEntry 2 bytes x
unfolding take_part
take_takes bytes x fits e =
    let a = then_read (byte_part bytes) _ x e in
    let b = then_read (reply_part a.0.1) _ x a.2 in
    let s = byte_takes bytes a.0 fits a.1 in
    let t = reply_takes a.0.1 b.0 s.0.rest_fits b.1 in
    let made : Entry × List ℕ = (Taken a.0.0 b.0.0, b.0.1) in
    subst (λ (p : Entry × List ℕ). Behind entry_text IsTraceEntry 2 bytes p) {x = made} (read_is made x b.2) (record {
      text = a.0.0 ∷ reply_text b.0.0;
      takes = Takes-then bytes (a.0.0 ∷ []) a.0.1 (reply_text b.0.0) b.0.1 s.0 t.0;
      spelled = refl;
      fits = (s.1, t.1);
    })

end_takes : (bytes : List ℕ) (x : Entry × List ℕ) → AreBytes bytes → end_part bytes ≡ Read x → Behind entry_text IsTraceEntry 3 bytes x
unfolding end_part
end_takes bytes x fits e =
    let a = then_read (byte_part bytes) _ x e in
    let s = byte_takes bytes a.0 fits a.1 in
    let made : Entry × List ℕ = (Ended a.0.0, a.0.1) in
    subst (λ (p : Entry × List ℕ). Behind entry_text IsTraceEntry 3 bytes p) {x = made} (read_is made x a.2) (record { text = a.0.0 ∷ []; takes = s.0; spelled = refl; fits = s.1 })

entry_by_takes : (kind : ℕ) (bytes : List ℕ) (x : Entry × List ℕ) → AreBytes bytes → entry_by kind bytes ≡ Read x → Behind entry_text IsTraceEntry kind bytes x
unfolding entry_by
entry_by_takes zero bytes x fits e = absurd cc
entry_by_takes (suc zero) bytes x fits e = arrival_takes bytes x fits e
entry_by_takes (suc (suc zero)) bytes x fits e = take_takes bytes x fits e
entry_by_takes (suc (suc (suc zero))) bytes x fits e = end_takes bytes x fits e
entry_by_takes (suc (suc (suc (suc number)))) bytes x fits e = absurd cc

pub entry_takes : (bytes : List ℕ) (x : Entry × List ℕ) → AreBytes bytes → entry_part bytes ≡ Read x → Takes bytes (entry_text x.0) x.1 × IsTraceEntry x.0
unfolding entry_part byte_part
entry_takes [] x fits e = absurd cc
entry_takes (kind ∷ bytes) x fits e = with_first entry_text IsTraceEntry kind bytes x (entry_by_takes kind bytes x fits.1 e)

arrival_again : (arrival : Arrival) (rest : List ℕ) → ArrivalFits arrival → entry_part (entry_text (Arrived arrival) ++ rest) ≡ Read (Arrived arrival, rest)
unfolding entry_part byte_part entry_by arrival_part
arrival_again arrival rest fits =
    let v : List ℕ = verdict_text arrival.verdict ++ rest in
    let t3 : List ℕ = to_be_bytes w16 (length arrival.bytes) ++ (arrival.bytes ++ v) in
    let y : Part Entry = Read (Arrived arrival, rest) in
    ap (λ (t : List ℕ). arrival_part (arrival.ingest ∷ to_be_bytes w64 arrival.reading ++ to_be_bytes w16 (length arrival.bytes) ++ t)) (append_assoc arrival.bytes (verdict_text arrival.verdict) rest) ∙
    then_again (number_part w64 (to_be_bytes w64 arrival.reading ++ t3)) _ (arrival.reading, t3) y (number_again w64 (2 ^ 64) field64 arrival.reading t3 fits.reading) (
    then_again (counted_part 2048 t3) _ (arrival.bytes, v) y (counted_again 2048 (length arrival.bytes) arrival.bytes v (omega arith) refl fits.few) (
    then_again (verdict_part v) _ (arrival.verdict, rest) y (verdict_again arrival.verdict rest fits.verdict) refl))

pub entry_again : (entry : Entry) (rest : List ℕ) → IsTraceEntry entry → entry_part (entry_text entry ++ rest) ≡ Read (entry, rest)
unfolding entry_part byte_part entry_by take_part end_part
entry_again (Arrived arrival) rest fits = arrival_again arrival rest fits
entry_again (Taken releaser reply) rest fits = then_again (reply_part (reply_text reply ++ rest)) _ (reply, rest) (Read (Taken releaser reply, rest)) (reply_again reply rest fits.1) refl
entry_again (Ended ingest) rest fits = refl
