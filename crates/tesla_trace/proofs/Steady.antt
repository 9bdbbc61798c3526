-- What bytes tell of a part of an entry stays so, whatever follows them; while they tell nothing they are few.
use Rattle.std.proofs.Common.{◌≡◌, ◌⊎◌, inl, inr, ℕ, zero, suc, ◌+◌, ◌<◌, ◌≤◌, Bool, true, false, ltb, List, [], ◌∷◌, ◌++◌, length, take, drop, Option, Some, None, refl, ap, subst, ◌∙◌, arith}
use Rattle.std.specs.Prelude.{if◌then◌else◌}
use Rattle.std.specs.Int.{Width, w16, w32, w64, byte_len}
use Rattle.std.proofs.lemmas.Bool.{ltb-true, ltb-false, le-ltb}
use Rattle.std.proofs.lemmas.List.{take-append-le, drop-append-le, length-append, length-drop}
use Rattle.tesla_base.specs.Prefix.{parse_bytes, parse_number}
use Rattle.tesla_base.proofs.Prefixes.{guard_some, guard_none, some_is, number_more, number_none, number_parts}
use Rattle.tesla_fitting.specs.declared.verdict.Verdict.{Verdict}
use Rattle.tesla_fitting.specs.declared.verdict.Verdict.TheVariants as verdicts
use Rattle.tesla_receiver.specs.declared.history.Entry.TheVariants.{Arrived, Taken, Ended}
use Rattle.tesla_state.specs.declared.replies.Reply.TheVariants.{Given, Empty, Over}
use Rattle.tesla_trace.specs.declared.kind.EntryFault.{EntryFault}
use Rattle.tesla_trace.specs.declared.kind.EntryFault.TheVariants.{BadKind, TooLong, BadCode}
use Rattle.tesla_trace.specs.Parsing.{Part, Short, Wrong, Read, ◌>>=◌, part_of, byte_part, number_part, counted_part, some_bound_part, bound_by, future_part, foreign_part, bad_key_part, kept_part, verdict_by, verdict_part, given_part, reply_by, reply_part, arrival_part, take_part, end_part, entry_by, entry_part}

-- ---- one part after another

pub read_is : {A : Type 0} (x y : A × List ℕ) → Read x ≡ Read y → x ≡ y
read_is x y e = cc

pub then_read : {A B : Type 0} (o : Part A) (f : A × List ℕ → Part B) (y : B × List ℕ) → (o >>= f) ≡ Read y → (x : A × List ℕ) × (o ≡ Read x) × (f x ≡ Read y)
then_read Short f y e = absurd cc
then_read (Wrong fault) f y e = absurd cc
then_read (Read x) f y e = (x, refl, e)

then_wrong : {A B : Type 0} (o : Part A) (f : A × List ℕ → Part B) (fault : EntryFault) → (o >>= f) ≡ Wrong fault → (o ≡ Wrong fault) ⊎ ((x : A × List ℕ) × (o ≡ Read x) × (f x ≡ Wrong fault))
then_wrong Short f fault e = absurd cc
then_wrong (Wrong other) f fault e = inl cc
then_wrong (Read x) f fault e = inr (x, refl, e)

then_short : {A B : Type 0} (o : Part A) (f : A × List ℕ → Part B) → (o >>= f) ≡ Short → (o ≡ Short) ⊎ ((x : A × List ℕ) × (o ≡ Read x) × (f x ≡ Short))
then_short Short f e = inl refl
then_short (Wrong fault) f e = absurd cc
then_short (Read x) f e = inr (x, refl, e)

-- a reader of a part that has at most so many bytes
pub record IsSteady {A : Type 0} (at : List ℕ → Part A) (most : ℕ) : Type 0 where
  pub short : (bytes : List ℕ) → at bytes ≡ Short → length bytes < most
  pub wrong : (bytes more : List ℕ) (fault : EntryFault) → at bytes ≡ Wrong fault → at (bytes ++ more) ≡ Wrong fault
  pub read : (bytes more : List ℕ) (x : A × List ℕ) → at bytes ≡ Read x → (at (bytes ++ more) ≡ Read (x.0, x.1 ++ more)) × (length x.1 ≤ length bytes) × (length bytes ≤ most + length x.1)

-- it may have more
weaker : {A : Type 0} (at : List ℕ → Part A) (most more : ℕ) → most ≤ more → IsSteady at most → IsSteady at more
weaker at most more le is = record {
  short = λ bytes e. omega (arith, le, is.short bytes e);
  wrong = λ bytes after fault e. is.wrong bytes after fault e;
  read = λ bytes after x e. let r = is.read bytes after x e in (r.0, r.1, omega (arith, le, r.2));
}

-- ---- what needs no bytes

steady_read : {A : Type 0} (x : A) → IsSteady (λ rest. Read (x, rest)) 0
steady_read {A = A} x = record {
  short = λ bytes e. absurd cc;
  wrong = λ bytes more fault e. absurd cc;
  read = λ bytes more y e. subst (λ (z : A × List ℕ). (Read (x, bytes ++ more) ≡ Read (z.0, z.1 ++ more)) × (length z.1 ≤ length bytes) × (length bytes ≤ 0 + length z.1)) (read_is (x, bytes) y e) (refl, omega arith, omega arith);
}

steady_wrong : {A : Type 0} (fault : EntryFault) → IsSteady {A = A} (λ rest. Wrong fault) 0
steady_wrong fault = record {
  short = λ bytes e. absurd cc;
  wrong = λ bytes more other e. e;
  read = λ bytes more y e. absurd cc;
}

-- ---- both

module _ {A B : Type 0} (p : List ℕ → Part A) (q : A × List ℕ → Part B) (m n : ℕ) (first : IsSteady p m) (second : (x : A) → IsSteady (λ rest. q (x, rest)) n) where
  short_by : (bytes : List ℕ) → (p bytes ≡ Short) ⊎ ((x : A × List ℕ) × (p bytes ≡ Read x) × (q x ≡ Short)) → length bytes < m + n
  short_by bytes (inl s) = omega (arith, first.short bytes s)
  short_by bytes (inr s) = omega (arith, (second s.0.0).short s.0.1 s.2, (first.read bytes [] s.0 s.1).2)

  wrong_by : (bytes more : List ℕ) (fault : EntryFault) → (p bytes ≡ Wrong fault) ⊎ ((x : A × List ℕ) × (p bytes ≡ Read x) × (q x ≡ Wrong fault)) → (p (bytes ++ more) >>= q) ≡ Wrong fault
  wrong_by bytes more fault (inl s) = ap (λ (o : Part A). o >>= q) (first.wrong bytes more fault s)
  wrong_by bytes more fault (inr s) = ap (λ (o : Part A). o >>= q) (first.read bytes more s.0 s.1).0 ∙ (second s.0.0).wrong s.0.1 more fault s.2

  read_by : (bytes more : List ℕ) (y : B × List ℕ) → (x : A × List ℕ) × (p bytes ≡ Read x) × (q x ≡ Read y)
      → ((p (bytes ++ more) >>= q) ≡ Read (y.0, y.1 ++ more)) × (length y.1 ≤ length bytes) × (length bytes ≤ m + n + length y.1)
  read_by bytes more y s =
      let r = first.read bytes more s.0 s.1 in
      let t = (second s.0.0).read s.0.1 more y s.2 in
      (ap (λ (o : Part A). o >>= q) r.0 ∙ t.0, omega (arith, r.1, t.1), omega (arith, r.2, t.2))

  pub steady_then : IsSteady (λ bytes. p bytes >>= q) (m + n)
  steady_then = record {
    short = λ bytes e. short_by bytes (then_short (p bytes) q e);
    wrong = λ bytes more fault e. wrong_by bytes more fault (then_wrong (p bytes) q fault e);
    read = λ bytes more y e. read_by bytes more y (then_read (p bytes) q y e);
  }

-- ---- bytes and numbers

byte_short : (bytes : List ℕ) → byte_part bytes ≡ Short → length bytes < 1
unfolding byte_part
byte_short [] e = omega arith
byte_short (b ∷ bytes) e = absurd cc

byte_wrong : (bytes more : List ℕ) (fault : EntryFault) → byte_part bytes ≡ Wrong fault → byte_part (bytes ++ more) ≡ Wrong fault
unfolding byte_part
byte_wrong [] more fault e = absurd cc
byte_wrong (b ∷ bytes) more fault e = absurd cc

byte_read : (bytes more : List ℕ) (x : ℕ × List ℕ) → byte_part bytes ≡ Read x → (byte_part (bytes ++ more) ≡ Read (x.0, x.1 ++ more)) × (length x.1 ≤ length bytes) × (length bytes ≤ 1 + length x.1)
unfolding byte_part
byte_read [] more x e = absurd cc
byte_read (b ∷ bytes) more x e =
    subst (λ (z : ℕ × List ℕ). (Read (b, bytes ++ more) ≡ Read (z.0, z.1 ++ more)) × (length z.1 ≤ suc (length bytes)) × (suc (length bytes) ≤ 1 + length z.1)) (read_is (b, bytes) x e) (refl, omega arith, omega arith)

pub steady_byte : IsSteady byte_part 1
steady_byte = record { short = byte_short; wrong = byte_wrong; read = byte_read }

pub part_read : {A : Type 0} (o : Option (A × List ℕ)) (x : A × List ℕ) → part_of o ≡ Read x → o ≡ Some x
part_read None x e = absurd cc
part_read (Some y) x e = cc

part_short : {A : Type 0} (o : Option (A × List ℕ)) → part_of o ≡ Short → o ≡ None
part_short None e = refl
part_short (Some y) e = absurd cc

part_wrong : {A : Type 0} (o : Option (A × List ℕ)) (fault : EntryFault) → part_of o ≡ Wrong fault → ⊥
part_wrong None fault e = absurd cc
part_wrong (Some y) fault e = absurd cc

pub steady_number : (w : Width) → IsSteady (number_part w) (byte_len w)
unfolding number_part
steady_number w = record {
  short = λ bytes e. number_none w bytes (part_short (parse_number w bytes) e);
  wrong = λ bytes more fault e. absurd (part_wrong (parse_number w bytes) fault e);
  read = λ bytes more x e.
      let there = part_read (parse_number w bytes) x e in
      let parts = number_parts w bytes x there in
      let behind : length x.1 ≡ length (drop (byte_len w) bytes) = ap (λ (r : List ℕ). length r) parts.2 in
      (ap (λ (o : Option (ℕ × List ℕ)). part_of o) (number_more w bytes more x there), omega (arith, behind, length-drop (byte_len w) bytes), omega (arith, behind, parts.0, length-drop (byte_len w) bytes));
}

-- so many bytes, at most some number
bytes_steady : (most n : ℕ) → n ≤ most → IsSteady (λ bytes. part_of (parse_bytes n bytes)) most
bytes_steady most n le = record {
  short = λ bytes e. omega (arith, le, ltb-true (length bytes) n (guard_none (ltb (length bytes) n) (take n bytes, drop n bytes) (part_short (parse_bytes n bytes) e)));
  wrong = λ bytes more fault e. absurd (part_wrong (parse_bytes n bytes) fault e);
  read = λ bytes more x e.
      let g = guard_some (ltb (length bytes) n) (Some (take n bytes, drop n bytes)) x (part_read (parse_bytes n bytes) x e) in
      let there : n ≤ length bytes = ltb-false (length bytes) n g.0 in
      let long : ltb (length (bytes ++ more)) n ≡ false = le-ltb _ _ (omega (arith, there, length-append bytes more)) in
      let again : part_of (parse_bytes n (bytes ++ more)) ≡ Read (take n bytes, drop n bytes ++ more) = rw (long, take-append-le n bytes more there, drop-append-le n bytes more there) refl in
      subst (λ (z : List ℕ × List ℕ). (part_of (parse_bytes n (bytes ++ more)) ≡ Read (z.0, z.1 ++ more)) × (length z.1 ≤ length bytes) × (length bytes ≤ most + length z.1)) (some_is (take n bytes, drop n bytes) x g.1) (again, omega (arith, length-drop n bytes), omega (arith, le, there, length-drop n bytes));
}

counted_by : (most n : ℕ) (b : Bool) → ltb most n ≡ b → IsSteady (λ rest. if b then Wrong TooLong else part_of (parse_bytes n rest)) most
counted_by most n true is = weaker (λ rest. Wrong TooLong) 0 most (omega arith) (steady_wrong TooLong)
counted_by most n false is = bytes_steady most n (ltb-false most n is)

pub steady_counted : (most : ℕ) → IsSteady (counted_part most) (2 + most)
unfolding counted_part
steady_counted most = steady_then (number_part w16) (λ n. if ltb most n.0 then Wrong TooLong else part_of (parse_bytes n.0 n.1)) 2 most (steady_number w16) (λ n. counted_by most n (ltb most n) refl)

-- ---- verdicts

some_bound_steady : IsSteady some_bound_part 8
unfolding some_bound_part
some_bound_steady = steady_then (number_part w64) (λ bound. Read (verdicts.Future (Some bound.0), bound.1)) 8 0 (steady_number w64) (λ bound. steady_read (verdicts.Future (Some bound)))

bound_steady : (flag : ℕ) → IsSteady (bound_by flag) 8
unfolding bound_by
bound_steady zero = weaker _ 0 8 (omega arith) (steady_read (verdicts.Future None))
bound_steady (suc zero) = some_bound_steady
bound_steady (suc (suc flag)) = weaker _ 0 8 (omega arith) (steady_wrong BadCode)

future_steady : IsSteady future_part 9
unfolding future_part
future_steady = steady_then byte_part (λ flag. bound_by flag.0 flag.1) 1 8 steady_byte bound_steady

foreign_steady : IsSteady foreign_part 9
unfolding foreign_part
foreign_steady = weaker _ 8 9 (omega arith) (steady_then (number_part w64) (λ stream. Read (verdicts.Foreign (record { 0 = stream.0 }), stream.1)) 8 0 (steady_number w64) (λ stream. steady_read (verdicts.Foreign (record { 0 = stream }))))

bad_key_steady : IsSteady bad_key_part 9
unfolding bad_key_part
bad_key_steady = weaker _ 1 9 (omega arith) (steady_then byte_part (λ chain. Read (verdicts.BadKey (record { 0 = chain.0 }), chain.1)) 1 0 steady_byte (λ chain. steady_read (verdicts.BadKey (record { 0 = chain }))))

kept_steady : IsSteady kept_part 9
unfolding kept_part
kept_steady = weaker _ 1 9 (omega arith) (steady_then byte_part (λ chains. Read (verdicts.Kept chains.0, chains.1)) 1 0 steady_byte (λ chains. steady_read (verdicts.Kept chains)))

plain_steady : (verdict : Verdict) → IsSteady (λ rest. Read (verdict, rest)) 9
plain_steady verdict = weaker _ 0 9 (omega arith) (steady_read verdict)

verdict_by_steady : (number : ℕ) → IsSteady (verdict_by number) 9
unfolding verdict_by
verdict_by_steady zero = weaker _ 0 9 (omega arith) (steady_wrong BadCode)
verdict_by_steady (suc zero) = plain_steady verdicts.Malformed
verdict_by_steady (suc (suc zero)) = foreign_steady
verdict_by_steady (suc (suc (suc zero))) = plain_steady verdicts.Misfit
verdict_by_steady (suc (suc (suc (suc zero)))) = future_steady
verdict_by_steady (suc (suc (suc (suc (suc zero))))) = bad_key_steady
verdict_by_steady (suc (suc (suc (suc (suc (suc zero)))))) = plain_steady verdicts.Late
verdict_by_steady (suc (suc (suc (suc (suc (suc (suc zero))))))) = plain_steady verdicts.Repeat
verdict_by_steady (suc (suc (suc (suc (suc (suc (suc (suc zero)))))))) = plain_steady verdicts.Full
verdict_by_steady (suc (suc (suc (suc (suc (suc (suc (suc (suc zero))))))))) = kept_steady
verdict_by_steady (suc (suc (suc (suc (suc (suc (suc (suc (suc (suc zero)))))))))) = plain_steady verdicts.Keys
verdict_by_steady (suc (suc (suc (suc (suc (suc (suc (suc (suc (suc (suc number))))))))))) = weaker _ 0 9 (omega arith) (steady_wrong BadCode)

pub verdict_steady : IsSteady verdict_part 10
unfolding verdict_part
verdict_steady = steady_then byte_part (λ number. verdict_by number.0 number.1) 1 9 steady_byte verdict_by_steady

-- ---- answers to takes

given_steady : IsSteady given_part 1217
unfolding given_part
given_steady =
    steady_then (number_part w64) _ 8 1209 (steady_number w64) (λ position.
    steady_then (number_part w32) _ 4 1205 (steady_number w32) (λ interval.
    steady_then (number_part w16) _ 2 1203 (steady_number w16) (λ number.
    steady_then byte_part _ 1 1202 steady_byte (λ chain.
    steady_then (counted_part 1200) _ 1202 0 (steady_counted 1200) (λ payload.
    steady_read (Given (record { position = position; interval = interval; number = number; chain = chain; length = length payload }) payload))))))

reply_by_steady : (code : ℕ) → IsSteady (reply_by code) 1217
unfolding reply_by
reply_by_steady zero = weaker _ 0 1217 (omega arith) (steady_read Empty)
reply_by_steady (suc zero) = weaker _ 0 1217 (omega arith) (steady_read Over)
reply_by_steady (suc (suc zero)) = given_steady
reply_by_steady (suc (suc (suc number))) = weaker _ 0 1217 (omega arith) (steady_wrong BadCode)

reply_steady : IsSteady reply_part 1218
unfolding reply_part
reply_steady = steady_then byte_part (λ code. reply_by code.0 code.1) 1 1217 steady_byte reply_by_steady

-- ---- entries

arrival_steady : IsSteady arrival_part 2069
unfolding arrival_part
arrival_steady =
    steady_then byte_part _ 1 2068 steady_byte (λ ingest.
    steady_then (number_part w64) _ 8 2060 (steady_number w64) (λ reading.
    steady_then (counted_part 2048) _ 2050 10 (steady_counted 2048) (λ datagram.
    steady_then verdict_part _ 10 0 verdict_steady (λ verdict.
    steady_read (Arrived (record { ingest = ingest; reading = reading; bytes = datagram; verdict = verdict }))))))

take_steady : IsSteady take_part 2069
unfolding take_part
take_steady = weaker _ 1219 2069 (omega arith) (steady_then byte_part _ 1 1218 steady_byte (λ releaser. steady_then reply_part _ 1218 0 reply_steady (λ reply. steady_read (Taken releaser reply))))

end_steady : IsSteady end_part 2069
unfolding end_part
end_steady = weaker _ 1 2069 (omega arith) (steady_then byte_part _ 1 0 steady_byte (λ ingest. steady_read (Ended ingest)))

pub entry_by_steady : (kind : ℕ) → IsSteady (entry_by kind) 2069
unfolding entry_by
entry_by_steady zero = weaker _ 0 2069 (omega arith) (steady_wrong BadKind)
entry_by_steady (suc zero) = arrival_steady
entry_by_steady (suc (suc zero)) = take_steady
entry_by_steady (suc (suc (suc zero))) = end_steady
entry_by_steady (suc (suc (suc (suc number)))) = weaker _ 0 2069 (omega arith) (steady_wrong BadKind)

pub entry_steady : IsSteady entry_part 2070
unfolding entry_part
entry_steady = steady_then byte_part (λ kind. entry_by kind.0 kind.1) 1 2069 steady_byte entry_by_steady
