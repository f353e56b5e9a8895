-- Every slice of records has bytes that hold them: `encoded`. So the equality of the two lookups, and of the two tests, is about every slice. Assumes nothing.
use mathlib.Core.Path.{◌≡◌, refl, ap, ◌∙◌}
use mathlib.Core.Bool.{Bool}
use mathlib.Core.List.{List, [], ◌∷◌}
use Prim.Native.Nat.{ℕ, zero, suc, ◌+◌, ◌*◌, ◌-◌, ◌/◌, ◌%◌, ◌^◌, ◌<◌}
use native.Mathlib.Nat.{add_assoc, mul_comm, mod-eq_of_lt, pow-suc}
use native.Mathlib.Omega.{arith}
use lib.Arith.{mod-mul}
use lib.IntN.{ℤ, pos, negsuc}
use lib.ListN.{length, get_or}
use lib.Signed.{mag}
use Rattle.little_endian.specs.Bytes.{little_endian, twos_complement}
use Rattle.zone.specs.Zone.{Record, record_at, records, listed, is_zone_list, accepts, offset_at}
use Rattle.little_endian.proofs.Numbers.{signed_low, signed_high}
use Rattle.zone_records.specs.declared.ZoneRecord.{ZoneRecord}
use Rattle.zone_records.specs.Slice.{as_record, as_records}
use Rattle.zone_records.specs.Encoded.{bytes_then, unsigned, encoded, Representable}
use Rattle.zone_records.proofs.Same.{same-lookup, same-accept}

-- ---- n bytes, and what stands after them
past : (n x : ℕ) (rest : List ℕ) (i : ℕ) → get_or (bytes_then n x rest) (n + i) 0 ≡ get_or rest i 0
past zero x rest i = ap (λ (k : ℕ). get_or rest k 0) (omega arith)
past (suc n) x rest i = ap (λ (k : ℕ). get_or (bytes_then (suc n) x rest) k 0) (omega arith) ∙ past n x _ (suc i)

after-length : (n x : ℕ) (rest : List ℕ) → length (bytes_then n x rest) ≡ n + length rest
after-length zero x rest = omega arith
after-length (suc n) x rest = after-length n x _ ∙ omega arith

read_past : (m n x : ℕ) (rest : List ℕ) (at : ℕ) → little_endian m (bytes_then n x rest) (n + at) ≡ little_endian m rest at
unfolding little_endian
read_past zero n x rest at = refl
read_past (suc m) n x rest at =
    ap (λ (k : ℕ). k + 256 ^ m * get_or (bytes_then n x rest) (n + at + m) 0) (read_past m n x rest at)
    ∙ ap (λ (k : ℕ). little_endian m rest at + 256 ^ m * k) (ap (λ (k : ℕ). get_or (bytes_then n x rest) k 0) (add_assoc n at m) ∙ past n x rest (at + m))

power_pos : (n : ℕ) → 0 < 256 ^ n
power_pos zero = omega arith
power_pos (suc n) = omega (arith, power_pos n, pow-suc 256 n)

read_back : (n x : ℕ) (rest : List ℕ) → little_endian n (bytes_then n x rest) 0 ≡ x % 256 ^ n
unfolding little_endian
read_back zero x rest = omega arith
read_back (suc n) x rest =
    let high : get_or (bytes_then (suc n) x rest) (0 + n) 0 ≡ x / 256 ^ n % 256 = ap (λ (k : ℕ). get_or (bytes_then (suc n) x rest) k 0) (omega arith) ∙ past n x _ 0 in
    ap (λ (k : ℕ). k + 256 ^ n * get_or (bytes_then (suc n) x rest) (0 + n) 0) (read_back n x _) ∙ ap (λ (k : ℕ). x % 256 ^ n + 256 ^ n * k) high
    ∙ (let split : x % 256 ^ suc n ≡ x / 256 ^ n % 256 * 256 ^ n + x % 256 ^ n =
    ap (λ (k : ℕ). x % k) (pow-suc 256 n ∙ mul_comm (256 ^ n) 256) ∙ mod-mul x {m = 256} {c = 256 ^ n} (omega arith) (power_pos n) in
    omega (arith, split, mul_comm (256 ^ n) (x / 256 ^ n % 256)))

-- ---- two's complement there and back
module _ (b h : ℕ) (half : 2 ^ (b - 1) ≡ h) (all : 2 ^ b ≡ h + h) where
  unsigned_small : (z : ℤ) → 0 < h → mag z < h → unsigned b z < h + h
  unsigned_small (pos n) p l = omega arith
  unsigned_small (negsuc n) p l = omega (arith, all)

  signed-unsigned : (z : ℤ) → mag z < h → twos_complement b (unsigned b z) ≡ z
  signed-unsigned (pos n) l = signed_low b h half all n l
  signed-unsigned (negsuc n) l = signed_high b h half all (2 ^ b - suc n) n l (omega (arith, all))

-- ---- a record
second_back : (z : ZoneRecord) (rest : List ℕ) → mag z.second < 2 ^ 63 → twos_complement 64 (little_endian 8 (bytes_then 8 (unsigned 64 z.second) rest) 0) ≡ z.second
second_back z rest l =
    ap (twos_complement 64) (read_back 8 (unsigned 64 z.second) rest ∙ mod-eq_of_lt (unsigned_small 64 (2 ^ 63) refl refl z.second (omega arith) l))
    ∙ signed-unsigned 64 (2 ^ 63) refl refl z.second l

offset-back : (z : ZoneRecord) (rest : List ℕ) → mag z.offset < 2 ^ 31 → twos_complement 32 (little_endian 4 (bytes_then 4 (unsigned 32 z.offset) rest) 0) ≡ z.offset
offset-back z rest l =
    ap (twos_complement 32) (read_back 4 (unsigned 32 z.offset) rest ∙ mod-eq_of_lt (unsigned_small 32 (2 ^ 31) refl refl z.offset (omega arith) l))
    ∙ signed-unsigned 32 (2 ^ 31) refl refl z.offset l

module _ (z : ZoneRecord) (zs : List ZoneRecord) where
  abbrev tail : List ℕ
  tail = bytes_then 4 (unsigned 32 z.offset) (encoded zs)

  -- the first record is z
  first_back : mag z.second < 2 ^ 63 → mag z.offset < 2 ^ 31 → record_at (encoded (z ∷ zs)) 0 ≡ as_record z
  unfolding record_at encoded
  first_back f g =
      let second = second_back z tail f in
      let offset = ap (twos_complement 32) (read_past 4 8 (unsigned 64 z.second) tail 0) ∙ offset-back z (encoded zs) g in
      λ j. record { second = second j; offset = offset j }

  -- and the others are the rest's
  read_next : (m at : ℕ) → little_endian m (encoded (z ∷ zs)) (12 + at) ≡ little_endian m (encoded zs) at
  unfolding encoded
  read_next m at =
      ap (little_endian m (encoded (z ∷ zs))) (let k : 12 + at ≡ 8 + (4 + at) = omega arith in k)
      ∙ read_past m 8 (unsigned 64 z.second) tail (4 + at) ∙ read_past m 4 (unsigned 32 z.offset) (encoded zs) at

  next-back : (i : ℕ) → record_at (encoded (z ∷ zs)) (suc i) ≡ record_at (encoded zs) i
  unfolding record_at
  next-back i =
      let second = ap (twos_complement 64) (ap (little_endian 8 (encoded (z ∷ zs))) (let k : 12 * suc i ≡ 12 + 12 * i = omega arith in k) ∙ read_next 8 (12 * i)) in
      let offset = ap (twos_complement 32) (ap (little_endian 4 (encoded (z ∷ zs))) (let k : 12 * suc i + 8 ≡ 12 + (12 * i + 8) = omega arith in k) ∙ read_next 4 (12 * i + 8)) in
      λ j. record { second = second j; offset = offset j }

-- ---- all of them
listed_same : (n : ℕ) (f g : ℕ → Record) → ((i : ℕ) → f i ≡ g i) → listed n f ≡ listed n g
listed_same zero f g e = refl
listed_same (suc n) f g e = λ j. e 0 j ∷ listed_same n (λ i. f (suc i)) (λ i. g (suc i)) (λ i. e (suc i)) j

encoded-length : (zs : List ZoneRecord) → length (encoded zs) ≡ 12 * length zs
unfolding encoded
encoded-length [] = refl
encoded-length (z ∷ zs) =
    omega (arith, after-length 8 (unsigned 64 z.second) (tail z zs), after-length 4 (unsigned 32 z.offset) (encoded zs), encoded-length zs)

listed_back : (zs : List ZoneRecord) → Representable zs → listed (length zs) (record_at (encoded zs)) ≡ as_records zs
listed_back [] m = refl
listed_back (z ∷ zs) m =
    λ j. first_back z zs m.0 m.1.0 j ∷ (listed_same (length zs) _ _ (next-back z zs) ∙ listed_back zs m.1.1) j

pub encoded-records : (zs : List ZoneRecord) → Representable zs → records (encoded zs) ≡ as_records zs
unfolding records
encoded-records zs m =
    let size : length (encoded zs) / 12 ≡ length zs = omega (arith, encoded-length zs) in
    ap (λ (n : ℕ). listed n (record_at (encoded zs))) size ∙ listed_back zs m

-- the two lookups agree on a slice and its bytes
pub encoded-lookup : (zs : List ZoneRecord) → Representable zs → (t r s : ℤ) → r ≡ offset_at (records (encoded zs)) t → s ≡ offset_at (as_records zs) t → s ≡ r
encoded-lookup zs m = same-lookup (encoded zs) zs (encoded-records zs m)

-- a slice is accepted exactly when its bytes are
pub encoded-accept : (zs : List ZoneRecord) → Representable zs → (r s : Bool) → r ≡ accepts (encoded zs) → s ≡ is_zone_list (as_records zs) → s ≡ r
encoded-accept zs m = same-accept (encoded zs) zs (encoded-records zs m) (encoded-length zs)
