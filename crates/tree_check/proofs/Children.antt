-- What a step at one child shows: the children so far and one more, and why the whole list falls with one child.
use Rattle.std.specs.Prelude.{Option}
use mathlib.Core.Path.{◌≡◌, sym, ap, subst, ◌∙◌}
use mathlib.Core.Bool.{Bool, true, false, not, cond, ◌&&◌, true≢false}
use mathlib.Core.List.{List, [], ◌∷◌, ◌++◌, map}
use Prim.Native.Nat.{ℕ, suc, ◌+◌, ◌≤◌, ◌<◌}
use native.Mathlib.Numerals.{add-one}
use native.Mathlib.Omega.{arith}
use lib.Dec.{eqb}
use lib.ListN.{length, get_or, drop}
use lib.Seq.{length-take-le, take-suc, split_at, take-take, get_or-take}
use borrow.Author.Tests.{eqb-true, ne_eqb, not-true}
use Rattle.plain.specs.Utf8.{valid_utf8, decode}
use Rattle.plain.specs.Count.{cr_last, lf_first}
use Rattle.plain.proofs.Logic.{and_left, and_right}
use Rattle.text_info.specs.declared.TextInfo.{TextInfo}
use Rattle.text_info.specs.declared.TextSum.{TextSum}
use Rattle.text_info.specs.Info.{zeros}
use Rattle.pool.specs.declared.Kid.{Kid}
use Rattle.pool.specs.Slot.{region_of, entries, no_kid}
use Rattle.pool.proofs.Kids.{entries-length}
use Rattle.child_search.specs.Sought.{Plus}
use Rattle.tree.specs.Tree.{uses, join_over, every, seamless, sum_of, tells, told_right, least_at, sound, plus_sum}
use Rattle.tree.specs.Kids.{below, fine, uses_of}
use Rattle.tree.proofs.Lists.{both, join-none, sum-none, every-none, join-filled, join_more, sum-append, sum-cons, sum_more, every-head, every-right, every_more}
use Rattle.tree.proofs.Seams.{cr-none, lf-none, cr-append, lf-append, seam-none, seam-more, seam-at}
use Rattle.tree.proofs.Counts.{sum_is, sum-nil, counts-add}
use Rattle.tree.proofs.Sound.{join-valid, valid-below, filled-below}
use Rattle.tree_check.specs.declared.Met.{Met}
use Rattle.tree_check.specs.Met.{Fresh, NodeFine, NodeMet, KidsFine, kids_to, follows, begun}
use Rattle.tree_check.proofs.Marks.{mark-le}

-- ── a child by the two parts of its entry ──

pub parts-opened : (k : Kid) (n : ℕ) (t : TextInfo) → n ≡ k.slot → t ≡ k.info → ◌≡◌ {A = Kid} (record { slot = n; info = t }) k
parts-opened k n t e f = λ i. record { slot = e i; info = f i }

-- ── a list of children by itself ──

module _ (m : List ℕ) (h : ℕ) where
  child-sound : (k : Kid) → fine m h k ≡ true → sound m (least_at h) h k.slot ≡ true
  child-sound k e = and_left (sound m (least_at h) h k.slot) (told_right m h k) e

  child-filled : (k : Kid) → fine m h k ≡ true → 1 ≤ length (below m h k)
  child-filled k e = filled-below m h k.slot (child-sound k e)

  child-valid : (k : Kid) → fine m h k ≡ true → valid_utf8 (below m h k) ≡ true
  child-valid k e = valid-below m (least_at h) h k.slot (child-sound k e)

  joined-filled : (ks : List Kid) → 1 ≤ length ks → every (fine m h) ks ≡ true → 1 ≤ length (join_over (below m h) ks)
  joined-filled [] l e = absurd (omega arith)
  joined-filled (k ∷ ks) l e = join-filled (below m h) k ks (child-filled k (every-head (fine m h) k ks e))

  told-by : (k : Kid) (got : TextSum) → got ≡ sum_of (decode (below m h k)) → tells k.info got ≡ told_right m h k
  unfolding told_right
  told-by k got e = ap (tells k.info) e

tells_is : (i : TextInfo) (s : TextSum) → tells i s ≡ true → (i.bytes ≡ s.bytes) × (i.chars ≡ s.chars) × (i.utf16_surrogates ≡ s.utf16_surrogates) × (i.line_breaks ≡ s.line_breaks)
tells_is i s e =
    let a = eqb i.bytes s.bytes in
    let b = eqb i.chars s.chars in
    let c = eqb i.utf16_surrogates s.utf16_surrogates in
    let d = eqb i.line_breaks s.line_breaks in
    let r = and_right a (b && (c && d)) e in
    let q = and_right b (c && d) r in
    (eqb-true i.bytes s.bytes (and_left a (b && (c && d)) e), eqb-true i.chars s.chars (and_left b (c && d) r), eqb-true i.utf16_surrogates s.utf16_surrogates (and_left c d q), eqb-true i.line_breaks s.line_breaks (and_right c d q))

-- ── from the first child on ──

module _ (m seen : List ℕ) (h : ℕ) where
  pub kids-none : (sum : TextSum) → sum ≡ zeros → KidsFine m seen seen h [] sum false false
  kids-none sum e = record {
    each = every-none (fine m h);
    seams = seam-none (below m h);
    fresh = record { at = λ x. omega (arith, mark-le seen x, sum-none (λ (k : Kid). uses m h k.slot x)) };
    told = record {
      counts = e ∙ sym (ap (λ (t : List ℕ). sum_of (decode t)) (join-none (below m h)) ∙ sum-nil);
      first = sym (ap lf_first (join-none (below m h)) ∙ lf-none);
      last = sym (ap cr_last (join-none (below m h)) ∙ cr-none);
    };
    marked = record { at = λ x. omega (arith, sum-none (λ (k : Kid). uses m h k.slot x)) };
  }

  module _ (now : List ℕ) (ks : List Kid) (sum : TextSum) (lf cr : Bool) (f : KidsFine m seen now h ks sum lf cr) (k : Kid) where
    -- one more
    pub kids-more : (later : List ℕ) (got r : TextSum) (first last : Bool) → NodeFine m now later (least_at h) h k.slot got first last
        → follows k.info got cr first ≡ true → Plus sum k.info r → KidsFine m seen later h (ks ++ (k ∷ [])) r (begun (length ks) lf first) last
    kids-more later got r first last c e p =
        let right = and_left (tells k.info got) (not (cr && first)) e in
        let seam = not-true (cr && first) (and_right (tells k.info got) (not (cr && first)) e) in
        let good = both (sound m (least_at h) h k.slot) (told_right m h k) c.good (sym (told-by m h k got c.told.counts) ∙ right) in
        let a = join_over (below m h) ks in
        let b = below m h k in
        let j : join_over (below m h) (ks ++ (k ∷ [])) ≡ a ++ b = join_more (below m h) ks k in
        let ab : (cr_last a && lf_first b) ≡ false = sym (ap (λ (x : Bool). x && lf_first b) f.told.last) ∙ ap (λ (x : Bool). cr && x) (sym c.told.first) ∙ seam in
        let filled = filled-below m h k.slot c.good in
        let i = tells_is k.info got right in
        let sums : r ≡ plus_sum (sum_of (decode a)) (sum_of (decode b)) = sum_is r (plus_sum (sum_of (decode a)) (sum_of (decode b)))
        (omega (arith, ap (λ (s : TextSum). s.bytes) p.is, ap (λ (s : TextSum). s.bytes) f.told.counts, ap (λ (s : TextSum). s.bytes) c.told.counts, i.0))
        (omega (arith, ap (λ (s : TextSum). s.chars) p.is, ap (λ (s : TextSum). s.chars) f.told.counts, ap (λ (s : TextSum). s.chars) c.told.counts, i.1))
        (omega (arith, ap (λ (s : TextSum). s.utf16_surrogates) p.is, ap (λ (s : TextSum). s.utf16_surrogates) f.told.counts, ap (λ (s : TextSum). s.utf16_surrogates) c.told.counts, i.2))
        (omega (arith, ap (λ (s : TextSum). s.line_breaks) p.is, ap (λ (s : TextSum). s.line_breaks) f.told.counts, ap (λ (s : TextSum). s.line_breaks) c.told.counts, i.3)) in
        record {
          each = every_more (fine m h) ks k f.each good;
          seams = seam-more (below m h) (fine m h) (child-filled m h) ks k f.each f.seams ab;
          fresh = record { at = λ x. omega (arith, sum_more (λ (q : Kid). uses m h q.slot x) ks k, f.marked.at x, c.fresh.at x) };
          told = record {
            counts = sums ∙ sym (ap (λ (t : List ℕ). sum_of (decode t)) j ∙ counts-add a b (join-valid (below m h) (fine m h) (child-valid m h) ks f.each) (child-valid m h k good) ab);
            first = begins ks f.each f.told.first c.told.first ∙ sym (ap lf_first j);
            last = c.told.last ∙ sym (ap cr_last j ∙ cr-append a b filled);
          };
          marked = record { at = λ x. omega (arith, sum_more (λ (q : Kid). uses m h q.slot x) ks k, f.marked.at x, c.marked.at x) };
        }
      where
        begins : (l : List Kid) {first : Bool} → every (fine m h) l ≡ true → lf ≡ lf_first (join_over (below m h) l) → first ≡ lf_first (below m h k)
            → begun (length l) lf first ≡ lf_first (join_over (below m h) l ++ below m h k)
        begins [] {first} e p q = q ∙ ap (λ (x : List ℕ). lf_first (x ++ below m h k)) (sym (join-none (below m h)))
        begins (x ∷ l) {first} e p q =
            ap (λ (t : Bool). cond t first lf) (ne_eqb (suc (length l)) 0 (λ z. omega (arith, z)))
            ∙ p
            ∙ sym (lf-append (join_over (below m h) (x ∷ l)) (below m h k) (joined-filled m h (x ∷ l) (omega arith) e))

    -- the children are not fine where this one is not, whatever follows it
    module _ (rest : List Kid) (each : every (fine m h) (ks ++ (k ∷ rest)) ≡ true) (fr : Fresh seen (uses_of m h (ks ++ (k ∷ rest)))) where
      good-here : fine m h k ≡ true
      good-here = every-head (fine m h) k rest (every-right (fine m h) ks (k ∷ rest) each)

      pub kid-bad : (sound m (least_at h) h k.slot ≡ true → Fresh now (uses m h k.slot) → ⊥) → ⊥
      kid-bad bad =
          bad (child-sound m h k good-here)
          (record { at = λ x. omega (arith, f.marked.at x, fr.at x, sum-append (λ (q : Kid). uses m h q.slot x) ks (k ∷ rest), sum-cons (λ (q : Kid). uses m h q.slot x) k rest) })

      pub kid-off : (later : List ℕ) (got : TextSum) (first last : Bool) → seamless (map (below m h) (ks ++ (k ∷ rest))) ≡ true
          → NodeFine m now later (least_at h) h k.slot got first last → follows k.info got cr first ≡ false → ⊥
      kid-off later got first last seams c e =
          let right : tells k.info got ≡ true = told-by m h k got c.told.counts ∙ and_right (sound m (least_at h) h k.slot) (told_right m h k) good-here in
          let seam : (cr && first) ≡ false =
          ap (λ (x : Bool). x && first) f.told.last
          ∙ ap (λ (x : Bool). cr_last (join_over (below m h) ks) && x) c.told.first
          ∙ seam-at (below m h) (fine m h) (child-filled m h) ks k rest f.each seams in
          true≢false (sym (both (tells k.info got) (not (cr && first)) right (ap not seam)) ∙ e)

-- ── the entries of a slot, in turn ──

-- the answer for a child, whose least size is that of its height
pub child-met : (m seen later : List ℕ) (least h s : ℕ) (r q : Option Met) → least ≡ least_at h → r ≡ q → NodeMet m seen later least h s r → NodeMet m seen later (least_at h) h s q
child-met m seen later least h s r q e f c = subst (λ (n : ℕ). NodeMet m seen later n h s q) e (subst (λ (x : Option Met). NodeMet m seen later least h s x) f c)

module _ (m seen : List ℕ) (h s i : ℕ) (few : i < 16) (k : Kid) (is : k ≡ get_or (entries (region_of m s)) i no_kid) where
  so-many : length (kids_to m s i) ≡ i
  so-many = length-take-le i (entries (region_of m s)) (omega (arith, entries-length (region_of m s)))

  with-one : kids_to m s i ++ (k ∷ []) ≡ kids_to m s (i + 1)
  with-one =
      ap (λ (x : Kid). kids_to m s i ++ (x ∷ [])) is
      ∙ sym (take-suc (entries (region_of m s)) i no_kid (omega (arith, entries-length (region_of m s))))
      ∙ ap (λ (j : ℕ). kids_to m s j) (sym (add-one i))

  with_rest : (n : ℕ) → i < n → n ≤ 16 → kids_to m s i ++ (k ∷ drop (suc i) (kids_to m s n)) ≡ kids_to m s n
  with_rest n l u =
      let es = entries (region_of m s) in
      let z = length-take-le n es (omega (arith, entries-length (region_of m s))) in
      ap (λ (x : Kid). kids_to m s i ++ (x ∷ drop (suc i) (kids_to m s n))) (is ∙ sym (get_or-take n es i no_kid l))
      ∙ ap (λ (x : List Kid). x ++ (get_or (kids_to m s n) i no_kid ∷ drop (suc i) (kids_to m s n))) (sym (take-take i n es (omega arith)))
      ∙ sym (split_at (kids_to m s n) i no_kid (omega (arith, z)))

  module _ (now : List ℕ) (sum : TextSum) (lf cr : Bool) (f : KidsFine m seen now h (kids_to m s i) sum lf cr) where
    pub turn_more : (later : List ℕ) (got r : TextSum) (first last : Bool) → NodeFine m now later (least_at h) h k.slot got first last
        → follows k.info got cr first ≡ true → Plus sum k.info r → (b : Bool) → b ≡ begun i lf first → KidsFine m seen later h (kids_to m s (i + 1)) r b last
    turn_more later got r first last c e p b q =
        subst (λ (ks : List Kid). KidsFine m seen later h ks r b last) with-one
        (subst (λ (x : Bool). KidsFine m seen later h (kids_to m s i ++ (k ∷ [])) r x last) (ap (λ (j : ℕ). begun j lf first) so-many ∙ sym q)
        (kids-more m seen h now (kids_to m s i) sum lf cr f k later got r first last c e p))

    module _ (n : ℕ) (l : i < n) (u : n ≤ 16) (each : every (fine m h) (kids_to m s n) ≡ true) (seams : seamless (map (below m h) (kids_to m s n)) ≡ true) (fr : Fresh seen (uses_of m h (kids_to m s n))) where
      rest : List Kid
      rest = drop (suc i) (kids_to m s n)

      parts : kids_to m s i ++ (k ∷ rest) ≡ kids_to m s n
      unfolding rest
      parts = with_rest n l u

      each_part : every (fine m h) (kids_to m s i ++ (k ∷ rest)) ≡ true
      each_part = ap (every (fine m h)) parts ∙ each

      fresh-part : Fresh seen (uses_of m h (kids_to m s i ++ (k ∷ rest)))
      fresh-part = subst (λ (ks : List Kid). Fresh seen (uses_of m h ks)) (sym parts) fr

      pub turn-bad : (sound m (least_at h) h k.slot ≡ true → Fresh now (uses m h k.slot) → ⊥) → ⊥
      turn-bad bad = kid-bad m seen h now (kids_to m s i) sum lf cr f k rest each_part fresh-part bad

      pub turn-off : (later : List ℕ) (got : TextSum) (first last : Bool) → NodeFine m now later (least_at h) h k.slot got first last → follows k.info got cr first ≡ false → ⊥
      turn-off later got first last c e =
          kid-off m seen h now (kids_to m s i) sum lf cr f k rest each_part fresh-part later got first last
          (ap (λ (ks : List Kid). seamless (map (below m h) ks)) parts ∙ seams) c e
