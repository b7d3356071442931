-- A text is well formed exactly where no window of four bytes is wrong and no char is left unfinished (`valid-scan`).
use mathlib.Core.Path.{◌≡◌, refl, sym, ap, ◌∙◌}
use mathlib.Core.Bool.{Bool, true, false, not, ◌&&◌, ◌||◌, cond, beq, or-true}
use mathlib.Core.List.{List, [], ◌∷◌}
use Prim.Native.Nat.{ℕ, suc, ◌≤◌, ◌<◌}
use native.Mathlib.Omega.{arith}
use lib.Dec.{ltb, leb, eqb}
use borrow.Author.Tests.{lt-ltb, le-ltb, le-leb, lt-leb, ne_eqb}
use Rattle.plain.specs.Utf8.{Row, row, class_of, row_of, due, valid_utf8}
use Rattle.plain.proofs.Logic.{cut}
use Rattle.plain.proofs.Table.{within-yes, within_low, within-high, View, View.none, View.row1, View.row2, View.row3, View.row4, View.row5, View.row6, View.row7, View.row8, View.row9, view, class-1, class-2, class-3, class-4, class-5, class-6, class-7, class-8, class-9}
use Rattle.utf8.specs.Window.{owed, is_later, out_of, bad_at, scan}
use Rattle.utf8.proofs.Classes.{none-due}

-- ── what is due behind three bytes ──

-- n bytes more, each of them from 80 to BF
abbrev rest : ℕ → Row
rest n = row 0 0 n 0x80 0xBF

-- are these bytes well formed, where what the row asks for is due?
abbrev due_by : Row → List ℕ → Bool
due_by r bs = due r.more r.low r.high bs

-- the row that is due behind three bytes with nothing wrong in them
unfoldable asked : ℕ → ℕ → ℕ → Row
asked x y z = cond (leb 0xC0 z) (row_of (class_of z)) (cond (leb 0xE0 y) (cond (leb 0xF0 y) (rest 2) (rest 1)) (cond (leb 0xF0 x) (rest 1) (rest 0)))

-- no first byte stands right before another
abbrev Tidy : ℕ → ℕ → Type 0
Tidy y z = 0xC0 ≤ z → y < 0xC0

-- one byte more: its window is wrong, and nothing is accepted from it on; or it is not, and what is due goes on
data Turn (x y z b : ℕ) : Type 0 where
  wrong : bad_at true x y z b ≡ true → ((bs : List ℕ) → due_by (asked x y z) (b ∷ bs) ≡ false) → Turn x y z b
  right : bad_at true x y z b ≡ false → ((bs : List ℕ) → due_by (asked x y z) (b ∷ bs) ≡ due_by (asked y z b) bs) → Tidy z b → Turn x y z b

-- ── bytes by the tests ──

later-yes : (b : ℕ) → 0x80 ≤ b → b < 0xC0 → is_later b ≡ true
unfolding is_later
later-yes b h k = simp le-leb

later-low : (b : ℕ) → b < 0x80 → is_later b ≡ false
unfolding is_later
later-low b h = simp lt-leb

later-high : (b : ℕ) → 0xC0 ≤ b → is_later b ≡ false
unfolding is_later
later-high b h = let z : 0x80 ≤ b = omega arith in simp (le-leb, le-ltb)

in-low : (z b : ℕ) → z < 0xC0 → out_of true z b ≡ false
unfolding out_of
in-low z b h =
    let p : z < 0xF5 = omega arith in
    simp (ne_eqb z 0xE0 (λ e. omega arith), ne_eqb z 0xED (λ e. omega arith), ne_eqb z 0xF0 (λ e. omega arith), ne_eqb z 0xF4 (λ e. omega arith), lt-leb)

owed-z : (x y z : ℕ) → 0xC0 ≤ z → owed true x y z ≡ true
unfolding owed
owed-z x y z h = simp le-leb

owed-y : (x y z : ℕ) → z < 0xC0 → 0xE0 ≤ y → owed true x y z ≡ true
unfolding owed
owed-y x y z h k = simp (lt-leb, le-leb)

owed-x : (x y z : ℕ) → z < 0xC0 → y < 0xE0 → 0xF0 ≤ x → owed true x y z ≡ true
unfolding owed
owed-x x y z h k l = simp (lt-leb, le-leb)

owed-no : (x y z : ℕ) → z < 0xC0 → y < 0xE0 → x < 0xF0 → owed true x y z ≡ false
unfolding owed
owed-no x y z h k l = simp lt-leb

-- the parts of `bad_at`
bad-parts : (x y z b : ℕ) (o l u : Bool) → owed true x y z ≡ o → is_later b ≡ l → out_of true z b ≡ u → bad_at true x y z b ≡ (not (beq o l) || u)
unfolding bad_at
bad-parts x y z b o l u p q r = λ i. not (beq (p i) (q i)) || r i

asked-z : (x y z : ℕ) → 0xC0 ≤ z → asked x y z ≡ row_of (class_of z)
unfolding asked
asked-z x y z h = simp le-leb

asked-4 : (x y z : ℕ) → z < 0xC0 → 0xF0 ≤ y → asked x y z ≡ rest 2
unfolding asked
asked-4 x y z h k = let p : 0xE0 ≤ y = omega arith in simp (lt-leb, le-leb)

asked-3 : (x y z : ℕ) → z < 0xC0 → 0xE0 ≤ y → y < 0xF0 → asked x y z ≡ rest 1
unfolding asked
asked-3 x y z h k l = simp (lt-leb, le-leb)

asked-x : (x y z : ℕ) → z < 0xC0 → y < 0xE0 → 0xF0 ≤ x → asked x y z ≡ rest 1
unfolding asked
asked-x x y z h k l = simp (lt-leb, le-leb)

asked-0 : (x y z : ℕ) → z < 0xC0 → y < 0xE0 → x < 0xF0 → asked x y z ≡ rest 0
unfolding asked
asked-0 x y z h k l = simp lt-leb

-- ── steps of `due` ──

step-first : (b : ℕ) (bs : List ℕ) → due 0 0x80 0xBF (b ∷ bs) ≡ due_by (row_of (class_of b)) bs
unfolding due
step-first b bs = refl

step-next : (n lo hi b : ℕ) (bs : List ℕ) → lo ≤ b → b ≤ hi → due (suc n) lo hi (b ∷ bs) ≡ due n 0x80 0xBF bs
unfolding due
step-next n lo hi b bs h k = ap (λ (t : Bool). t && due n 0x80 0xBF bs) (within-yes lo hi b h k)

step-low : (n lo hi b : ℕ) (bs : List ℕ) → b < lo → due (suc n) lo hi (b ∷ bs) ≡ false
unfolding due
step-low n lo hi b bs h = ap (λ (t : Bool). t && due n 0x80 0xBF bs) (within_low lo hi b h)

step-high : (n lo hi b : ℕ) (bs : List ℕ) → hi < b → due (suc n) lo hi (b ∷ bs) ≡ false
unfolding due
step-high n lo hi b bs h = ap (λ (t : Bool). t && due n 0x80 0xBF bs) (within-high lo hi b h)

-- the row of a class
row_at : (z k : ℕ) → class_of z ≡ k → row_of (class_of z) ≡ row_of k
row_at z k e = ap row_of e

-- a later byte begins no row
class-later : (b : ℕ) → 0x80 ≤ b → b < 0xC0 → class_of b ≡ 0
class-later b h k = go (view b)
  where
    go : View b → class_of b ≡ 0
    go (none e) = e
    go (row1 h1 e) = absurd (omega arith)
    go (row2 h1 h2 e) = absurd (omega arith)
    go (row3 h1 e) = absurd (omega arith)
    go (row4 h1 h2 e) = absurd (omega arith)
    go (row5 h1 e) = absurd (omega arith)
    go (row6 h1 h2 e) = absurd (omega arith)
    go (row7 h1 e) = absurd (omega arith)
    go (row8 h1 h2 e) = absurd (omega arith)
    go (row9 h1 e) = absurd (omega arith)

-- ── one byte more ──

-- a later byte is owed, with n more behind it
owing : (x y z b n : ℕ) → owed true x y z ≡ true → out_of true z b ≡ false → asked x y z ≡ rest (suc n) → (b < 0xC0 → asked y z b ≡ rest n) → Turn x y z b
owing x y z b n o u d next =
    cut b 0x80 (λ h. wrong (bad-parts x y z b true false false o (later-low b h) u) (λ bs. ap (λ (r : Row). due_by r (b ∷ bs)) d ∙ step-low n 0x80 0xBF b bs h)) (λ h.
    cut b 0xC0 (λ k. right (bad-parts x y z b true true false o (later-yes b h k) u) (λ bs. ap (λ (r : Row). due_by r (b ∷ bs)) d ∙ step-next n 0x80 0xBF b bs h (omega arith) ∙ sym (ap (λ (r : Row). due_by r bs) (next k))) (λ m. absurd (omega arith)))
    (λ k. wrong (bad-parts x y z b true false false o (later-high b k) u) (λ bs. ap (λ (r : Row). due_by r (b ∷ bs)) d ∙ step-high n 0x80 0xBF b bs (omega arith))))

-- nothing is owed
free : (x y z b : ℕ) → z < 0xC0 → y < 0xE0 → x < 0xF0 → Turn x y z b
unfolding row_of
free x y z b hz hy hx =
    let o = owed-no x y z hz hy hx in
    let u = in-low z b hz in
    let d : (bs : List ℕ) → due_by (asked x y z) (b ∷ bs) ≡ due_by (row_of (class_of b)) bs = λ bs. ap (λ (r : Row). due_by r (b ∷ bs)) (asked-0 x y z hz hy hx) ∙ step-first b bs in
    cut b 0x80 (λ h. right (bad-parts x y z b false false false o (later-low b h) u) (λ bs. d bs ∙ ap (λ (r : Row). due_by r bs) (row_at b 1 (class-1 b (omega arith))) ∙ sym (ap (λ (r : Row). due_by r bs) (asked-0 y z b (omega arith) (omega arith) (omega arith)))) (λ m. absurd (omega arith))) (λ h.
    cut b 0xC0 (λ k. wrong (bad-parts x y z b false true false o (later-yes b h k) u) (λ bs. d bs ∙ ap (λ (r : Row). due_by r bs) (row_at b 0 (class-later b h k)) ∙ none-due bs))
    (λ k. right (bad-parts x y z b false false false o (later-high b k) u) (λ bs. d bs ∙ sym (ap (λ (r : Row). due_by r bs) (asked-z y z b k))) (λ m. hz)))

-- z is a first byte, with the range from lo to hi for the second, and n more behind that
module _ (x y z b n : ℕ) (r : Row) (hz : 0xC0 ≤ z) (f : row_of (class_of z) ≡ r) (m : r.more ≡ suc n) (hl : 0x80 ≤ r.low) (hh : r.high < 0xC0) where
  second : (r.low ≤ b → b ≤ r.high → out_of true z b ≡ false) → (0x80 ≤ b → b < r.low → out_of true z b ≡ true) → (r.high < b → b < 0xC0 → out_of true z b ≡ true) → (b < 0xC0 → asked y z b ≡ rest n) → Turn x y z b
  second fits under-it over next =
      let o = owed-z x y z hz in
      let d : (bs : List ℕ) → due_by (asked x y z) (b ∷ bs) ≡ due (suc n) r.low r.high (b ∷ bs) =
      λ bs. ap (λ (q : Row). due_by q (b ∷ bs)) (asked-z x y z hz ∙ f) ∙ ap (λ (k : ℕ). due k r.low r.high (b ∷ bs)) m in
      cut b r.low (λ h. cut b 0x80 (λ l. wrong (bad-parts x y z b true false (out_of true z b) o (later-low b l) refl) (λ bs. d bs ∙ step-low n r.low r.high b bs h))
      (λ l. wrong (bad-parts x y z b true (is_later b) true o refl (under-it l h) ∙ or-true (not (beq true (is_later b)))) (λ bs. d bs ∙ step-low n r.low r.high b bs h))) (λ h.
      cut r.high b (λ k. cut b 0xC0 (λ l. wrong (bad-parts x y z b true (is_later b) true o refl (over k l) ∙ or-true (not (beq true (is_later b)))) (λ bs. d bs ∙ step-high n r.low r.high b bs k))
      (λ l. wrong (bad-parts x y z b true false (out_of true z b) o (later-high b l) refl) (λ bs. d bs ∙ step-high n r.low r.high b bs k)))
      (λ k. right (bad-parts x y z b true true false o (later-yes b (omega arith) (omega arith)) (fits h k)) (λ bs. d bs ∙ step-next n r.low r.high b bs h k ∙ sym (ap (λ (q : Row). due_by q bs) (next (omega arith)))) (λ w. absurd (omega arith))))

-- nothing special of the second byte
plain : (z b : ℕ) → 0xC2 ≤ z → z < 0xF5 → (z ≡ 0xE0 → ⊥) → (z ≡ 0xED → ⊥) → (z ≡ 0xF0 → ⊥) → (z ≡ 0xF4 → ⊥) → out_of true z b ≡ false
unfolding out_of
plain z b h k p q r s =
    let l : 0xC0 ≤ z = omega arith in
    simp (ne_eqb z 0xE0 p, ne_eqb z 0xED q, ne_eqb z 0xF0 r, ne_eqb z 0xF4 s, le-leb 0xC0 z l, le-ltb, lt-leb)

none-c0 : (z b : ℕ) → 0xC0 ≤ z → z < 0xC2 → out_of true z b ≡ true
unfolding out_of
none-c0 z b h k = simp (ne_eqb z 0xE0 (λ e. omega arith), ne_eqb z 0xED (λ e. omega arith), ne_eqb z 0xF0 (λ e. omega arith), ne_eqb z 0xF4 (λ e. omega arith), le-leb)

none-f5 : (z b : ℕ) → 0xF5 ≤ z → out_of true z b ≡ true
unfolding out_of
none-f5 z b h = simp (le-leb 0xF5 z h) (or-true ((((((eqb z 0xE0 && ltb b 0xA0) || (eqb z 0xED && leb 0xA0 b)) || (eqb z 0xF0 && ltb b 0x90)) || (eqb z 0xF4 && leb 0x90 b)) || (leb 0xC0 z && ltb z 0xC2))))

-- z begins no row
never : (x y z b : ℕ) → 0xC0 ≤ z → class_of z ≡ 0 → out_of true z b ≡ true → Turn x y z b
unfolding row_of
never x y z b hz e u =
    wrong (bad-parts x y z b true (is_later b) true (owed-z x y z hz) refl u ∙ or-true (not (beq true (is_later b))))
    (λ bs. ap (λ (r : Row). due_by r (b ∷ bs)) (asked-z x y z hz ∙ row_at z 0 e) ∙ none-due (b ∷ bs))

never-in : (x y z b : ℕ) → 0xC0 ≤ z → class_of z ≡ 0 → Turn x y z b
never-in x y z b hz e =
    cut z 0xC2 (λ h. never x y z b hz e (none-c0 z b hz h)) (λ h2.
    cut z 0xE0 (λ h. absurd (not-zero 2 (class-2 z h2 (omega arith)) (omega arith))) (λ h3.
    cut z 0xE1 (λ h. absurd (not-zero 3 (class-3 z (omega arith)) (omega arith))) (λ h4.
    cut z 0xED (λ h. absurd (not-zero 4 (class-4 z h4 (omega arith)) (omega arith))) (λ h5.
    cut z 0xEE (λ h. absurd (not-zero 5 (class-5 z (omega arith)) (omega arith))) (λ h6.
    cut z 0xF0 (λ h. absurd (not-zero 6 (class-6 z h6 (omega arith)) (omega arith))) (λ h7.
    cut z 0xF1 (λ h. absurd (not-zero 7 (class-7 z (omega arith)) (omega arith))) (λ h8.
    cut z 0xF4 (λ h. absurd (not-zero 8 (class-8 z h8 (omega arith)) (omega arith))) (λ h9.
    cut z 0xF5 (λ h. absurd (not-zero 9 (class-9 z (omega arith)) (omega arith))) (λ h. never x y z b hz e (none-f5 z b h))))))))))
  where
    not-zero : (k : ℕ) → class_of z ≡ k → 0 < k → ⊥
    not-zero k f h = omega arith

turn-first : (x y z b : ℕ) → 0xC0 ≤ z → Tidy y z → Turn x y z b
unfolding out_of row_of
turn-first x y z b hz t = go (view z)
  where
    hy : y < 0xC0
    hy = t hz

    go : View z → Turn x y z b
    go (none e) = never-in x y z b hz e
    go (row1 h e) = absurd (omega arith)
    go (row2 h1 h2 e) = second x y z b 0 (row_of 2) hz (row_at z 2 e) refl (omega arith) (omega arith) (λ h k. plain z b h1 (omega arith) (λ q. omega arith) (λ q. omega arith) (λ q. omega arith) (λ q. omega arith)) (λ h k. absurd (omega arith)) (λ h k. absurd (omega arith)) (λ h. asked-0 y z b h (omega arith) (omega (arith, t hz)))
    go (row3 h e) = second x y z b 1 (row_of 3) hz (row_at z 3 e) refl (omega arith) (omega arith) (λ m k. ap (λ (v : ℕ). out_of true v b) h ∙ simp (le-ltb b 0xA0 m)) (λ m k. ap (λ (v : ℕ). out_of true v b) h ∙ simp (lt-ltb b 0xA0 k)) (λ m k. absurd (omega arith)) (λ m. asked-3 y z b m (omega arith) (omega arith))
    go (row4 h1 h2 e) = second x y z b 1 (row_of 4) hz (row_at z 4 e) refl (omega arith) (omega arith) (λ h k. plain z b (omega arith) (omega arith) (λ q. omega arith) (λ q. omega arith) (λ q. omega arith) (λ q. omega arith)) (λ h k. absurd (omega arith)) (λ h k. absurd (omega arith)) (λ m. asked-3 y z b m (omega arith) (omega arith))
    go (row5 h e) = second x y z b 1 (row_of 5) hz (row_at z 5 e) refl (omega arith) (omega arith) (λ m k. ap (λ (v : ℕ). out_of true v b) h ∙ simp (lt-leb 0xA0 b (omega arith))) (λ m k. absurd (omega arith)) (λ m k. ap (λ (v : ℕ). out_of true v b) h ∙ simp (le-leb 0xA0 b (omega arith))) (λ m. asked-3 y z b m (omega arith) (omega arith))
    go (row6 h1 h2 e) = second x y z b 1 (row_of 6) hz (row_at z 6 e) refl (omega arith) (omega arith) (λ h k. plain z b (omega arith) (omega arith) (λ q. omega arith) (λ q. omega arith) (λ q. omega arith) (λ q. omega arith)) (λ h k. absurd (omega arith)) (λ h k. absurd (omega arith)) (λ m. asked-3 y z b m (omega arith) (omega arith))
    go (row7 h e) = second x y z b 2 (row_of 7) hz (row_at z 7 e) refl (omega arith) (omega arith) (λ m k. ap (λ (v : ℕ). out_of true v b) h ∙ simp (le-ltb b 0x90 m)) (λ m k. ap (λ (v : ℕ). out_of true v b) h ∙ simp (lt-ltb b 0x90 k)) (λ m k. absurd (omega arith)) (λ m. asked-4 y z b m (omega arith))
    go (row8 h1 h2 e) = second x y z b 2 (row_of 8) hz (row_at z 8 e) refl (omega arith) (omega arith) (λ h k. plain z b (omega arith) (omega arith) (λ q. omega arith) (λ q. omega arith) (λ q. omega arith) (λ q. omega arith)) (λ h k. absurd (omega arith)) (λ h k. absurd (omega arith)) (λ m. asked-4 y z b m (omega arith))
    go (row9 h e) = second x y z b 2 (row_of 9) hz (row_at z 9 e) refl (omega arith) (omega arith) (λ m k. ap (λ (v : ℕ). out_of true v b) h ∙ simp (lt-leb 0x90 b (omega arith))) (λ m k. absurd (omega arith)) (λ m k. ap (λ (v : ℕ). out_of true v b) h ∙ simp (le-leb 0x90 b (omega arith))) (λ m. asked-4 y z b m (omega arith))

turn : (x y z b : ℕ) → Tidy y z → Turn x y z b
turn x y z b t =
    cut z 0xC0 (λ hz.
    cut y 0xE0 (λ hy. cut x 0xF0 (free x y z b hz hy) (λ hx. owing x y z b 0 (owed-x x y z hz hy hx) (in-low z b hz) (asked-x x y z hz hy hx) (λ k. asked-0 y z b k (omega arith) (omega arith))))
    (λ hy. cut y 0xF0 (λ k. owing x y z b 0 (owed-y x y z hz hy) (in-low z b hz) (asked-3 x y z hz hy k) (λ l. asked-0 y z b l (omega arith) (omega arith)))
    (λ k. owing x y z b 1 (owed-y x y z hz hy) (in-low z b hz) (asked-4 x y z hz k) (λ l. asked-x y z b l (omega arith) k))))
    (λ hz. turn-first x y z b hz t)

-- ── the whole text ──

-- a char is left unfinished exactly where a byte is due
ended : (x y z : ℕ) → due_by (asked x y z) [] ≡ not (owed true x y z)
unfolding due row_of
ended x y z =
    cut z 0xC0 (λ hz.
    cut y 0xE0 (λ hy. cut x 0xF0 (λ hx. by (asked-0 x y z hz hy hx) (owed-no x y z hz hy hx) refl) (λ hx. by (asked-x x y z hz hy hx) (owed-x x y z hz hy hx) refl))
    (λ hy. cut y 0xF0 (λ k. by (asked-3 x y z hz hy k) (owed-y x y z hz hy) refl) (λ k. by (asked-4 x y z hz k) (owed-y x y z hz hy) refl)))
    (λ hz. by (asked-z x y z hz) (owed-z x y z hz) (first hz (view z)))
  where
    by : {r : Row} {t : Bool} → asked x y z ≡ r → owed true x y z ≡ t → due_by r [] ≡ not t → due_by (asked x y z) [] ≡ not (owed true x y z)
    by {r} {t} p q e = ap (λ (v : Row). due_by v []) p ∙ e ∙ ap not (sym q)

    at : (k : ℕ) → class_of z ≡ k → due_by (row_of k) [] ≡ false → due_by (row_of (class_of z)) [] ≡ false
    at k e f = ap (λ (v : Row). due_by v []) (row_at z k e) ∙ f

    first : 0xC0 ≤ z → View z → due_by (row_of (class_of z)) [] ≡ false
    first hz (none e) = at 0 e refl
    first hz (row1 h e) = absurd (omega arith)
    first hz (row2 h1 h2 e) = at 2 e refl
    first hz (row3 h e) = at 3 e refl
    first hz (row4 h1 h2 e) = at 4 e refl
    first hz (row5 h e) = at 5 e refl
    first hz (row6 h1 h2 e) = at 6 e refl
    first hz (row7 h e) = at 7 e refl
    first hz (row8 h1 h2 e) = at 8 e refl
    first hz (row9 h e) = at 9 e refl

scanned : (bs : List ℕ) (x y z : ℕ) → Tidy y z → due_by (asked x y z) bs ≡ not (scan true x y z bs)
unfolding scan
scanned [] x y z t = ended x y z
scanned (b ∷ bs) x y z t = go (scanned bs y z b) (turn x y z b t)
  where
    go : (Tidy z b → due_by (asked y z b) bs ≡ not (scan true y z b bs)) → Turn x y z b → due_by (asked x y z) (b ∷ bs) ≡ not (bad_at true x y z b || scan true y z b bs)
    go f (wrong p q) = q bs ∙ sym (ap (λ (u : Bool). not (u || scan true y z b bs)) p)
    go f (right p q r) = q bs ∙ f r ∙ sym (ap (λ (u : Bool). not (u || scan true y z b bs)) p)

-- THEOREM: well formed is what no scan true finds fault with
pub valid-scan : (bs : List ℕ) → valid_utf8 bs ≡ not (scan true 0 0 0 bs)
unfolding valid_utf8
valid-scan bs = ap (λ (r : Row). due_by r bs) (sym (asked-0 0 0 0 (omega arith) (omega arith) (omega arith))) ∙ scanned bs 0 0 0 (λ h. absurd (omega arith))
