-- Laws of the file of a certificate: ranks that agree give one file, it has L bytes, each part stands where the layout says, and it is read with its own
-- sizes, rows and ranks. What is read of a file is read too of an output that begins with it. Assumes nothing.
use Rattle.std.specs.Prelude.{Ok}
use Prim.Native.Nat.{ℕ, zero, suc, ◌+◌, ◌*◌, ◌/◌, ◌%◌, ◌≤◌, ◌<◌}
use mathlib.Core.Path.{◌≡◌, refl, sym, ap, ap₂, ◌∙◌}
use mathlib.Core.List.{List, [], ◌∷◌, ◌++◌}
use native.Mathlib.Nat.{mod-lt, zero-lt-suc}
use native.Mathlib.Omega.{arith}
use lib.ListN.{length, take, length-append, length-take, get_or-append}
use lib.Seq.{take_at, take_all, get_or-take, get_or-append-add, ext_get_or}
use Rattle.lists.specs.Lists.{tabulate, grid, put_front}
use Rattle.lists.specs.Numbers.{byte_at, big_endian, big_bytes}
use Rattle.lists.proofs.FillLaws.{tabulate-cong, length-grid, get_or-grid, put-front-fits, part_length}
use Rattle.bisimulation.specs.Systems.{Ranks, Bytes}
use Rattle.answers.specs.Numbers.{six_numbers}
use Rattle.answers.specs.Causes.{NoCause}
use Rattle.table_reader.specs.TableCauses.{MagicFits}
use Rattle.answers.proofs.CauseLaws.{none_below}
use Rattle.certificates.specs.declared.Sizes.{Sizes}
use Rattle.certificates.specs.Layout.{certificate_length, certificate_header_length, al_at, ar_at, cl_at, cr_at, rows_part}
use Rattle.certificate_reader.specs.CertificateReading.{read_certificate}
use Rattle.certificate_reader.specs.CertificateCauses.{certificate_causes}
use Rattle.certificate_reader.specs.CertificateCauses as conditions
use Rattle.certificates.specs.CertificateModel.{AreBytes, ranks_of}
use Rattle.certificates.proofs.LayoutLaws.{runs-follow, al-inside, ar-inside, cl-inside, cr-inside}
use Rattle.certificates.proofs.ModelLaws.{rows-byte}
use Rattle.certificate_reader.proofs.CertificateLaws.{NoWideRow}
use Rattle.certificate_reader.proofs.CertificateCauseLaws.{certificate-none-good}
use Rattle.files.specs.File.{certificate_header, certificate_file, certificate_in}

-- ---- lists that are put together

-- the byte at place i of what follows p
byte-after : (p q : List ℕ) {a : ℕ} (i : ℕ) → length p ≡ a → byte_at (p ++ q) (a + i) ≡ byte_at q i
byte-after p q i e = ap (λ (k : ℕ). byte_at (p ++ q) (k + i)) (sym e) ∙ get_or-append-add p q i 0

byte-before : (p q : List ℕ) {a : ℕ} (i : ℕ) → length p ≡ a → i < a → byte_at (p ++ q) i ≡ byte_at p i
byte-before p q i e h = get_or-append p q 0 i (rw e h)

length_run : (p : List ℕ) {a e : ℕ} (n m : ℕ) (f : ℕ → ℕ → ℕ) → length p ≡ a → a + n * m ≡ e → length (p ++ grid n m f) ≡ e
length_run p n m f h k = length-append p (grid n m f) ∙ rw (h, length-grid n m f) k

-- ---- sizes that fit a header, and ranks that agree

-- The states fit one byte, and the steps two.
pub record FitsHeader (z : Sizes) : Type 0 where
  pub n1< : z.n1 < 256
  pub n2< : z.n2 < 256
  pub m1< : z.m1 < 65536
  pub m2< : z.m2 < 65536

-- The ranks agree at every pair of states, and at every step and state, of these sizes.
pub record RanksAgree (z : Sizes) (q r : Ranks) : Type 0 where
  pub stutter : (s t : ℕ) → s < z.n1 → t < z.n2 → q.stutter s t ≡ r.stutter s t
  pub match : (j t : ℕ) → j < z.m1 → t < z.n2 → q.match j t ≡ r.match j t
  pub stutter' : (t s : ℕ) → t < z.n2 → s < z.n1 → q.stutter' t s ≡ r.stutter' t s
  pub match' : (j s : ℕ) → j < z.m2 → s < z.n1 → q.match' j s ≡ r.match' j s

grid-same : (n m : ℕ) (f g : ℕ → ℕ → ℕ) → ((s t : ℕ) → s < n → t < m → f s t ≡ g s t) → grid n m f ≡ grid n m g
unfolding grid
grid-same zero m f g h = refl
grid-same (suc n) m f g h =
    ap₂ ◌++◌ (grid-same n m f g (λ s t a b. h s t (omega arith) b)) (tabulate-cong m (f n) (g n) (λ t b. h n t (omega arith) b))

-- ranks that agree give one file
pub file-same : (z : Sizes) (rows : List ℕ) (q r : Ranks) → RanksAgree z q r → certificate_file z rows q ≡ certificate_file z rows r
unfolding certificate_file
file-same z rows q r h =
    let al = grid-same z.n1 z.n2 q.stutter r.stutter h.stutter in
    let ar = grid-same z.n2 z.n1 q.stutter' r.stutter' h.stutter' in
    let cl = grid-same z.m1 z.n2 q.match r.match h.match in
    let cr = grid-same z.m2 z.n1 q.match' r.match' h.match' in
    rw (al, ar, cl, cr)

-- ---- where each part ends

pub header-length : (z : Sizes) → length (certificate_header z) ≡ 11
unfolding certificate_header big_bytes
header-length z = refl

module _ (z : Sizes) (rows : List ℕ) (r : Ranks) (full : length rows ≡ 8 * z.n1) where
  -- the file up to the end of the rows, of AL, of AR and of CL
  abbrev to-rows : List ℕ
  to-rows = certificate_header z ++ rows

  abbrev to-al : List ℕ
  to-al = to-rows ++ grid z.n1 z.n2 r.stutter

  abbrev to-ar : List ℕ
  to-ar = to-al ++ grid z.n2 z.n1 r.stutter'

  abbrev to-cl : List ℕ
  to-cl = to-ar ++ grid z.m1 z.n2 r.match

  rows_end : length to-rows ≡ al_at z
  rows_end = length-append (certificate_header z) rows ∙ rw (header-length z, full) (runs-follow z).rows_end

  al-end : length to-al ≡ ar_at z
  al-end = length_run to-rows z.n1 z.n2 r.stutter rows_end (runs-follow z).al-end

  ar-end : length to-ar ≡ cl_at z
  ar-end = length_run to-al z.n2 z.n1 r.stutter' al-end (runs-follow z).ar-end

  cl-end : length to-cl ≡ cr_at z
  cl-end = length_run to-ar z.m1 z.n2 r.match ar-end (runs-follow z).cl-end

  -- the file has L bytes
  pub file-length : length (certificate_file z rows r) ≡ certificate_length z
  unfolding certificate_file
  file-length = length_run to-cl z.m2 z.n1 r.match' cl-end (runs-follow z).cr-end

  -- ---- each byte of the rows and each rank stands at its place

  rows-cell : (i : ℕ) → i < 8 * z.n1 → byte_at (certificate_file z rows r) (certificate_header_length + i) ≡ byte_at rows i
  unfolding certificate_file
  rows-cell i h =
      let f = runs-follow z in
      let l : 11 + i < al_at z = omega arith in
      byte-before to-cl _ _ cl-end (omega arith) ∙ byte-before to-ar _ _ ar-end (omega arith) ∙ byte-before to-al _ _ al-end (omega arith)
      ∙ byte-before to-rows _ _ rows_end l ∙ byte-after (certificate_header z) rows i (header-length z)

  al-cell : (s t : ℕ) → s < z.n1 → t < z.n2 → byte_at (certificate_file z rows r) (al_at z + (s * z.n2 + t)) ≡ r.stutter s t
  unfolding certificate_file
  al-cell s t h k =
      let f = runs-follow z in
      let w = al-inside z h k in
      byte-before to-cl _ _ cl-end (omega arith) ∙ byte-before to-ar _ _ ar-end (omega arith) ∙ byte-before to-al _ _ al-end (omega arith)
      ∙ byte-after to-rows _ _ rows_end ∙ get_or-grid z.n1 z.n2 r.stutter s t h k

  ar-cell : (t s : ℕ) → t < z.n2 → s < z.n1 → byte_at (certificate_file z rows r) (ar_at z + (t * z.n1 + s)) ≡ r.stutter' t s
  unfolding certificate_file
  ar-cell t s h k =
      let f = runs-follow z in
      let w = ar-inside z h k in
      byte-before to-cl _ _ cl-end (omega arith) ∙ byte-before to-ar _ _ ar-end (omega arith)
      ∙ byte-after to-al _ _ al-end ∙ get_or-grid z.n2 z.n1 r.stutter' t s h k

  cl-cell : (j t : ℕ) → j < z.m1 → t < z.n2 → byte_at (certificate_file z rows r) (cl_at z + (j * z.n2 + t)) ≡ r.match j t
  unfolding certificate_file
  cl-cell j t h k =
      let f = runs-follow z in
      let w = cl-inside z h k in
      byte-before to-cl _ _ cl-end (omega arith) ∙ byte-after to-ar _ _ ar-end ∙ get_or-grid z.m1 z.n2 r.match j t h k

  cr-cell : (j s : ℕ) → j < z.m2 → s < z.n1 → byte_at (certificate_file z rows r) (cr_at z + (j * z.n1 + s)) ≡ r.match' j s
  unfolding certificate_file
  cr-cell j s h k = byte-after to-cl _ _ cl-end ∙ get_or-grid z.m2 z.n1 r.match' j s h k

  -- ---- a list whose first L bytes are the file

  module _ (c : List ℕ) (holds : certificate_in z c ≡ certificate_file z rows r) where
    pub length-in-file : length (certificate_in z c) ≡ certificate_length z
    length-in-file = ap length holds ∙ file-length

    pub file-fits : certificate_length z ≤ length c
    file-fits = omega (arith, sym (length-take (certificate_length z) c) ∙ length-in-file)

    file-byte : (i : ℕ) → i < certificate_length z → byte_at c i ≡ byte_at (certificate_file z rows r) i
    file-byte i h = sym (get_or-take (certificate_length z) c i 0 h) ∙ ap (λ (l : List ℕ). byte_at l i) holds

    -- its rows are the rows
    pub rows-in-file : rows_part c z ≡ rows
    unfolding rows_part al_at
    rows-in-file =
        let f = runs-follow z in
        let k : length (rows_part c z) ≡ 8 * z.n1 = part_length c certificate_header_length (8 * z.n1) (omega (arith, file-fits)) in
        ext_get_or 0 (rows_part c z) rows (k ∙ sym full)
        (λ i h. let b : i < 8 * z.n1 = rw k at h in rows-byte z c i b ∙ file-byte (certificate_header_length + i) (omega arith) ∙ rows-cell i b)

    -- its ranks inside the runs are the ranks
    pub ranks-in-file : RanksAgree z (ranks_of z c) r
    unfolding ranks_of
    ranks-in-file =
        let f = runs-follow z in
        record {
          stutter = λ s t h k. let w = al-inside z h k in file-byte _ (omega arith) ∙ al-cell s t h k;
          match = λ j t h k. let w = cl-inside z h k in file-byte _ (omega arith) ∙ cl-cell j t h k;
          stutter' = λ t s h k. let w = ar-inside z h k in file-byte _ (omega arith) ∙ ar-cell t s h k;
          match' = λ j s h k. let w = cr-inside z h k in file-byte _ (omega arith) ∙ cr-cell j s h k;
        }

-- ---- the file itself

module _ (z : Sizes) (rows : List ℕ) (r : Ranks) (full : length rows ≡ 8 * z.n1) where
  file-itself : certificate_in z (certificate_file z rows r) ≡ certificate_file z rows r
  file-itself = take_all (certificate_length z) (certificate_file z rows r) (omega (arith, file-length z rows r full))

  pub file-rows : rows_part (certificate_file z rows r) z ≡ rows
  file-rows = rows-in-file z rows r full (certificate_file z rows r) file-itself

  pub file-ranks : RanksAgree z (ranks_of z (certificate_file z rows r)) r
  file-ranks = ranks-in-file z rows r full (certificate_file z rows r) file-itself

  -- an output that has room holds the file once it is put at its front
  pub put_holds : (output : List ℕ) → certificate_length z ≤ length output
      → certificate_in z (put_front (certificate_file z rows r) output) ≡ certificate_file z rows r
  put_holds output h =
      let e = file-length z rows r full in
      ap (take (certificate_length z)) (put-front-fits (certificate_file z rows r) output (omega arith)) ∙ take_at (certificate_file z rows r) _ _ e

-- ---- the file is read

-- the two bytes of a number below 65,536 give the number
two_bytes : (x : ℕ) → x < 65536 → (0 * 256 + x / 256 % 256) * 256 + x % 256 ≡ x
two_bytes x h = omega arith

module _ (z : Sizes) (rows : List ℕ) (r : Ranks) (full : length rows ≡ 8 * z.n1) (fit : FitsHeader z) where
  file-sizes : conditions.SizesFit z (certificate_file z rows r)
  unfolding certificate_file certificate_header big_bytes big_endian
  file-sizes = (refl, refl, two_bytes z.m1 fit.m1<, two_bytes z.m2 fit.m2<)

  file-magic : MagicFits 0x43 (certificate_file z rows r)
  unfolding certificate_file certificate_header
  file-magic = (refl, refl, refl)

  file-version : big_endian (certificate_file z rows r) 3 2 ≡ 1
  unfolding certificate_file certificate_header big_bytes big_endian
  file-version = refl

  -- with its own sizes, where no row has a bit n2 or more
  pub file-good : NoWideRow rows z.n1 z.n2 → read_certificate z (certificate_file z rows r) ≡ Ok z
  unfolding certificate_length
  file-good narrow = certificate-none-good 2 z (certificate_file z rows r) none
    where
      long : length (certificate_file z rows r) ≡ certificate_length z
      long = file-length z rows r full

      wide : ℕ → Type 0
      wide = conditions.HasWideBit (rows_part (certificate_file z rows r) z) z.n2

      none : NoCause (certificate_causes 2 z (certificate_file z rows r))
      none = (
        λ h. omega (arith, long),
        (
          λ h. h file-magic,
          (
            λ h. h file-version,
            (
              λ h. h file-sizes,
              (
                λ h. h long,
                none_below z.n1 wide (six_numbers 15 2) (λ s l h. narrow s l (rw (file-rows z rows r full) at h)),
              ),
            ),
          ),
        ),
      )

-- ---- the file is bytes

record ByteList (l : List ℕ) : Type 0 where
  each : AreBytes l

bytes-none : ByteList []
bytes-none = record { each = λ i. zero-lt-suc 255 }

bytes-append : {p q : List ℕ} → ByteList p → ByteList q → ByteList (p ++ q)
bytes-append {p} {q} h k = record { each = go p h.each }
  where
    go : (p : List ℕ) → AreBytes p → AreBytes (p ++ q)
    go [] h i = k.each i
    go (x ∷ p) h zero = h zero
    go (x ∷ p) h (suc i) = go p (λ (j : ℕ). h (suc j)) i

bytes-cons : {x : ℕ} {l : List ℕ} → x < 256 → ByteList l → ByteList (x ∷ l)
bytes-cons {x} {l} h k = record { each = go }
  where
    go : AreBytes (x ∷ l)
    go zero = h
    go (suc i) = k.each i

bytes-tabulate : (n : ℕ) (f : ℕ → ℕ) → ((i : ℕ) → f i < 256) → ByteList (tabulate n f)
unfolding tabulate
bytes-tabulate zero f h = bytes-none
bytes-tabulate (suc n) f h = bytes-append (bytes-tabulate n f h) (bytes-cons (h n) bytes-none)

bytes-grid : (n m : ℕ) (f : ℕ → ℕ → ℕ) → ((s t : ℕ) → f s t < 256) → ByteList (grid n m f)
unfolding grid
bytes-grid zero m f h = bytes-none
bytes-grid (suc n) m f h = bytes-append (bytes-grid n m f h) (bytes-tabulate m (f n) (h n))

bytes-number : (k x : ℕ) → ByteList (big_bytes k x)
unfolding big_bytes
bytes-number zero x = bytes-none
bytes-number (suc k) x = bytes-append (bytes-number k (x / 256)) (bytes-cons (mod-lt x (zero-lt-suc 255)) bytes-none)

bytes-header : (z : Sizes) → FitsHeader z → ByteList (certificate_header z)
unfolding certificate_header
bytes-header z fit =
    bytes-append
    (bytes-append
    (bytes-append
    (bytes-append (bytes-cons (omega arith) (bytes-cons (omega arith) (bytes-cons (omega arith) bytes-none))) (bytes-number 2 1))
    (bytes-cons fit.n1< (bytes-cons fit.n2< bytes-none)))
    (bytes-number 2 z.m1))
    (bytes-number 2 z.m2)

pub file-bytes : (z : Sizes) (rows : List ℕ) (r : Ranks) → FitsHeader z → AreBytes rows → Bytes r → AreBytes (certificate_file z rows r)
unfolding certificate_file
file-bytes z rows r fit h b = whole.each
  where
    whole : ByteList (certificate_file z rows r)
    whole =
        bytes-append
        (bytes-append
        (bytes-append
        (bytes-append (bytes-append (bytes-header z fit) (record { each = h })) (bytes-grid z.n1 z.n2 r.stutter b.0))
        (bytes-grid z.n2 z.n1 r.stutter' b.2))
        (bytes-grid z.m1 z.n2 r.match b.1))
        (bytes-grid z.m2 z.n1 r.match' b.3)
