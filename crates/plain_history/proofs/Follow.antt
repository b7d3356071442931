-- The followers of a mark: at every time they are the chars at or behind its place. An edit keeps that, and so does a mark newly set.
use mathlib.Core.Path.{◌≡◌, refl, sym, ap, ◌∙◌}
use mathlib.Core.Bool.{Bool, true, false, ◌&&◌, ◌||◌, and-true, or-true, or-false}
use mathlib.Core.List.{List, [], ◌∷◌}
use Prim.Native.Nat.{ℕ, zero, suc, ◌+◌, ◌-◌, ◌≤◌, ◌<◌}
use native.Mathlib.Omega.{arith}
use native.Mathlib.Nat.{not-suc-le-zero}
use lib.Dec.{ltb, leb, eqb, leb-suc-suc}
use lib.ListN.{length, get_or, drop, length-drop}
use lib.Seq.{get_or-drop}
use borrow.Author.Tests.{lt-ltb, le-ltb, le-leb, lt-leb, eq-eqb, ne_eqb}
use Rattle.plain.specs.Edit.{replaced}
use Rattle.plain.proofs.Logic.{cut, and_none}
use Rattle.plain_note.specs.Note.{Mark, Mark.free, Mark.at}
use Rattle.plain_calls.specs.Marks.{moved_to, moved}
use Rattle.plain_calls.specs.Fits.{Placed}
use Rattle.plain_calls.proofs.Marks.{moved_before, moved_on}
use Rattle.plain_history.specs.History.{Behind, Behind.none, Behind.followers, up_from, is_in, set_at, joins, joined, first_in, stands}
use Rattle.plain_history.specs.Words.{Numbers}
use Rattle.plain_history.proofs.Numbers.{up-length, up_at, edited-length, zone}

-- ── members of a list ──

in-at : (l : List ℕ) (j : ℕ) → j < length l → is_in (get_or l j 0) l ≡ true
in-at [] j h = absurd (not-suc-le-zero h)
in-at (y ∷ ys) zero h = rw (eq-eqb y y refl)
in-at (y ∷ ys) (suc j) h = ap (λ (t : Bool). eqb (get_or ys j 0) y || t) (in-at ys j (omega arith)) ∙ or-true (eqb (get_or ys j 0) y)

in-not : (l : List ℕ) (x : ℕ) → ((j : ℕ) → j < length l → x ≡ get_or l j 0 → ⊥) → is_in x l ≡ false
in-not [] x h = refl
in-not (y ∷ ys) x h = rw (ne_eqb x y (h 0 (omega arith))) (in-not ys x (λ j l. h (suc j) (omega arith)))

new-not : (next m x : ℕ) → ((j : ℕ) → j < m → x ≡ next + j → ⊥) → is_in x (up_from next m) ≡ false
new-not next m x h =
    in-not (up_from next m) x (λ j l e. let k : j < m = omega (arith, up-length next m) in h j k (e ∙ up_at next m j k))

new_in : (next m j : ℕ) → j < m → is_in (next + j) (up_from next m) ≡ true
new_in next m j h = ap (λ (x : ℕ). is_in x (up_from next m)) (sym (up_at next m j h)) ∙ in-at (up_from next m) j (omega (arith, up-length next m))

-- ── followers of a mark at q ──

-- the chars at or behind it, and no number that is not given yet
pub record Follows (f : ℕ → Bool) (q : ℕ) (order : List ℕ) (next : ℕ) : Type 0 where
  pub within : q ≤ length order
  pub split : (i : ℕ) → i < length order → f (get_or order i 0) ≡ leb q i
  pub unborn : (x : ℕ) → next ≤ x → f x ≡ false

same-leb : (a b c d : ℕ) → (a ≤ b → c ≤ d) → (b < a → d < c) → leb a b ≡ leb c d
same-leb a b c d f g = cut b a (λ h. lt-leb a b h ∙ sym (lt-leb c d (g h))) (λ h. le-leb a b h ∙ sym (le-leb c d (f h)))

-- ── after an edit: m new chars in the place of those of [s, e), where one of the two is none ──

module _ (f : ℕ → Bool) (q : ℕ) (order : List ℕ) (next s e m : ℕ) (h : s ≤ e) (k : e ≤ length order) (one : s < e → m ≡ 0)
    (ns : Numbers order next) (r : Follows f q order next) where
  abbrev grown : ℕ → Bool
  grown x = f x || (joins f order s && is_in x (up_from next m))

  joins-is : joins f order s ≡ ltb q s
  joins-is = go s (omega arith)
    where
      go : (s : ℕ) → s ≤ length order → joins f order s ≡ ltb q s
      go zero l = sym (le-ltb q 0 (omega arith))
      go (suc s) l = r.split s l ∙ sym (leb-suc-suc q s)

  -- what was there follows as before, what is new if the char before it does, and nothing else
  grown-old : (x : ℕ) → is_in x (up_from next m) ≡ false → grown x ≡ f x
  grown-old x z = ap (λ (t : Bool). f x || (joins f order s && t)) z ∙ ap (λ (t : Bool). f x || t) (and_none (joins f order s)) ∙ or-false (f x)

  grown-new : (j : ℕ) → j < m → grown (next + j) ≡ ltb q s
  grown-new j z =
      ap (λ (t : Bool). t || (joins f order s && is_in (next + j) (up_from next m))) (r.unborn (next + j) (omega arith))
      ∙ ap (λ (t : Bool). joins f order s && t) (new_in next m j z) ∙ and-true (joins f order s) ∙ joins-is

  grown-below : (x : ℕ) → x < next → grown x ≡ f x
  grown-below x z = grown-old x (new-not next m x (λ j l y. omega arith))

  -- a mark at q' afterwards, where that agrees with each zone
  follow-to : (q' : ℕ) → q' ≤ s + m + (length order - e)
      → ((i : ℕ) → i < s → leb q i ≡ leb q' i)
      → ((j : ℕ) → j < m → ltb q s ≡ leb q' (s + j))
      → ((j : ℕ) → leb q (e + j) ≡ leb q' (s + m + j))
      → Follows grown q' (replaced s e (up_from next m) order) (next + m)
  follow-to q' w a b c = record {
    within = omega (arith, edited-length order next s e m h k);
    split = λ i l. zone order next s e m h k i l
        (λ u x. ap grown x ∙ grown-below (get_or order i 0) (ns.below i (omega arith)) ∙ r.split i (omega arith) ∙ a i u)
        (λ j z u x. ap grown x ∙ grown-new j u ∙ b j u ∙ ap (leb q') (sym z))
        (λ j z u x. ap grown x ∙ grown-below (get_or order (e + j) 0) (ns.below (e + j) u) ∙ r.split (e + j) u ∙ c j ∙ ap (leb q') (sym z));
    unborn = λ x l. grown-old x (new-not next m x (λ j y z. omega arith)) ∙ r.unborn x (omega arith);
  }

  -- THEOREM: the mark goes where its followers go
  pub follows-edited : Follows grown (moved_to s e m q) (replaced s e (up_from next m) order) (next + m)
  follows-edited =
      cut q s
      (λ l. rw (moved_before s e m q l) (follow-to q (omega arith) (λ i u. refl)
      (λ j u. lt-ltb q s l ∙ sym (le-leb q (s + j) (omega arith)))
      (λ j. same-leb q (e + j) q (s + m + j) (omega arith) (omega arith))))
      (λ l. rw (moved_on s e m q h one l) (follow-to (s + m + (q - e)) (omega (arith, r.within))
      (λ i u. same-leb q i (s + m + (q - e)) i (omega arith) (omega arith))
      (λ j u. le-ltb q s l ∙ sym (lt-leb (s + m + (q - e)) (s + j) (omega arith)))
      (λ j. same-leb q (e + j) (s + m + (q - e)) (s + m + j) (omega arith) (omega arith))))

-- ── a mark newly set ──

follows-set : (order : List ℕ) (next q : ℕ) → Numbers order next → q ≤ length order → Follows (λ x. is_in x (drop q order)) q order next
follows-set order next q ns h = record {
  within = h;
  split = λ i l. cut i q
      (λ a. in-not (drop q order) (get_or order i 0) (λ j b e. ns.own i (q + j) (omega arith) (omega (arith, length-drop q order)) (e ∙ get_or-drop q order j 0)) ∙ sym (lt-leb q i a))
      (λ a.
      let j = i - q in
      let z : q + j ≡ i = omega arith in
      let there : get_or order i 0 ≡ get_or (drop q order) j 0 = ap (λ (n : ℕ). get_or order n 0) (sym z) ∙ sym (get_or-drop q order j 0) in
      ap (λ (x : ℕ). is_in x (drop q order)) there ∙ in-at (drop q order) j (omega (arith, length-drop q order)) ∙ sym (le-leb q i a));
  unborn = λ x u. in-not (drop q order) x (λ j b e. omega (arith, e, get_or-drop q order j 0, ns.below (q + j) (omega (arith, length-drop q order))));
}

-- ── a mark and what is told of it agree ──

abbrev pub Stand : Mark → Behind → List ℕ → ℕ → Type 0
Stand free none order next = Unit {0}
Stand free (followers f) order next = ⊥
Stand (at q) none order next = ⊥
Stand (at q) (followers f) order next = Follows f q order next

pub stand-edited : (mark : Mark) (b : Behind) (order : List ℕ) (next s e m : ℕ) → s ≤ e → e ≤ length order → (s < e → m ≡ 0) → Numbers order next → Stand mark b order next
    → Stand (moved (moved_to s e m) mark) (joined order s (up_from next m) b) (replaced s e (up_from next m) order) (next + m)
unfolding joined
stand-edited free none order next s e m h k one ns r = tt
stand-edited free (followers f) order next s e m h k one ns r = r
stand-edited (at q) none order next s e m h k one ns r = r
stand-edited (at q) (followers f) order next s e m h k one ns r = follows-edited f q order next s e m h k one ns r

pub stand-set : (mark : Mark) (order : List ℕ) (next : ℕ) → Placed order mark → Numbers order next → Stand mark (set_at mark order) order next
unfolding set_at
stand-set free order next h ns = tt
stand-set (at q) order next h ns = follows-set order next q ns h

-- then the mark is where it must stand
first-is : (f : ℕ → Bool) (order : List ℕ) (q : ℕ) → q ≤ length order → ((i : ℕ) → i < length order → f (get_or order i 0) ≡ leb q i) → first_in f order ≡ q
unfolding first_in
first-is f [] zero h r = refl
first-is f [] (suc q) h r = absurd (not-suc-le-zero h)
first-is f (x ∷ xs) zero h r = rw (r 0 (omega arith))
first-is f (x ∷ xs) (suc q) h r =
    rw (r 0 (omega arith), lt-leb (suc q) 0 (omega arith)) (ap suc (first-is f xs q (omega arith) (λ i l. r (suc i) (omega arith) ∙ leb-suc-suc q i)))

pub stand-is : (mark : Mark) (b : Behind) (order : List ℕ) (next : ℕ) → Stand mark b order next → mark ≡ stands b order
unfolding stands
stand-is free none order next r = refl
stand-is free (followers f) order next r = absurd r
stand-is (at q) none order next r = absurd r
stand-is (at q) (followers f) order next r = ap at (sym (first-is f order q r.within r.split))
