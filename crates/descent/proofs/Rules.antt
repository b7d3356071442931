-- From the tests of the code to the definitions: an edit of a part of a leaf, and one level down.
use Rattle.answer.specs.Answers.{Answer, outcome}
use Rattle.std.specs.Prelude.{Ok, Err}
use mathlib.Core.Path.{◌≡◌, refl, sym, ap, subst, ◌∙◌}
use mathlib.Core.Bool.{Bool, true, false, cond}
use mathlib.Core.List.{List, [], ◌∷◌}
use Prim.Native.Nat.{ℕ, zero, suc, ◌+◌, ◌-◌, ◌≤◌, ◌<◌}
use native.Mathlib.Omega.{arith}
use lib.ListN.{length, drop}
use borrow.Author.Tests.{lt-ltb, le-ltb}
use Rattle.plain.specs.Place.{is_start, start_chars, place_of}
use Rattle.plain.specs.Outcome.{Outcome, Outcome.value}
use Rattle.plain.proofs.Logic.{cut, bit_le}
use Rattle.answer.specs.declared.Refusal.{Refusal}
use Rattle.text_info.specs.declared.TextSum.{TextSum}
use Rattle.child_search.specs.declared.Measure.{Measure}
use Rattle.tree_search.specs.Search.{count_in, branch_at}
use Rattle.leaf_parts.specs.Parts.{leaf_text, byte_in}
use Rattle.edit_steps.specs.declared.Edit.{Edit}
use Rattle.edit_steps.specs.declared.Edit.TheVariants as Edit·case
use Rattle.edit_steps.specs.Made.{Made, Made.apart, edit, Stepped}
use Rattle.edit_steps.specs.Acts.{Act, settled, reading, Did}
use Rattle.leaf_step.specs.Steps.{leaf_stepped}
use Rattle.rise.specs.Rise.{risen_by}
use Rattle.descent.specs.declared.Part.{Part}
use Rattle.descent.specs.declared.Part.TheVariants as Part·case
use Rattle.descent.specs.Descent.{lies_inside, inside_part, leaf_part, risen_after, edited_at}
use Rattle.descent.proofs.Inside.{lies-low, lies-end, lies_so}

-- ── chars behind others ──

-- at most one char begins at a byte: so a char is found by its number behind another
place-behind : (w : ℕ → ℕ) → ((x : ℕ) → w x ≤ 1) → (t : List ℕ) (a b : ℕ) → place_of w t (a + b) ≡ place_of w t a + place_of w (drop (place_of w t a) t) b
unfolding place_of
place-behind w one [] a b = refl
place-behind w one (x ∷ t) a b =
    cut a (w x)
    (λ h. let z : a + b ≡ b = omega (arith, one x) in rw (lt-ltb a (w x) h) (omega (arith, ap (place_of w (x ∷ t)) z)))
    (λ h.
    let z : a + b - w x ≡ a - w x + b = omega arith in
    rw (le-ltb a (w x) h, le-ltb (a + b) (w x) (omega arith)) (omega (arith, place-behind w one t (a - w x) b, ap (place_of w t) z)))

start-one : (x : ℕ) → start_chars x ≤ 1
unfolding start_chars
start-one x = bit_le (is_start x)

pub end_is : (text : List ℕ) (at k : ℕ) → k < at → (i : ℕ) → i ≡ byte_in text (at - k) → (rest : List ℕ) → rest ≡ drop i text → (j : ℕ) → j ≡ byte_in rest k → i + j ≡ byte_in text at
end_is text at k more i start rest is j end =
    let z : at ≡ at - k + k = omega arith in
    sym
    (ap (byte_in text) z
    ∙ place-behind start_chars start-one text (at - k) k
    ∙ ap (λ (n : ℕ). n + byte_in (drop n text) k) (sym start)
    ∙ ap (λ (l : List ℕ). i + byte_in l k) (sym is)
    ∙ ap (λ (n : ℕ). i + n) (sym end))

-- ── a part of a leaf ──

module _ (m : List ℕ) (s at k : ℕ) (piece : List ℕ) where
  abbrev stepped : List ℕ → Act Made
  stepped t = settled m (leaf_stepped m s (byte_in t (at - k)) (byte_in t at) piece)

  inside-by : (lies : Bool) → lies_inside (leaf_text m s) at k ≡ lies → cond lies (stepped (leaf_text m s)) (value apart, m) ≡ inside_part m s at k piece
  unfolding inside_part
  inside-by lies e = ap (λ (x : Bool). cond x (stepped (leaf_text m s)) (value apart, m)) (sym e)

  no_part : lies_inside (leaf_text m s) at k ≡ false → Did edit (inside_part m s at k piece) (Ok Edit·case.Apart) m
  no_part e = subst (λ (a : Act Made). Did edit a (Ok Edit·case.Apart) m) (inside-by false e) (record { answered = refl; memory = refl })

  pub none_before : at ≤ k → Did edit (inside_part m s at k piece) (Ok Edit·case.Apart) m
  none_before h = no_part (lies-low (leaf_text m s) at k h)

  module _ (more : k < at) (text : List ℕ) (is : text ≡ leaf_text m s) (e : ℕ) (end : e ≡ byte_in text at) where
    pub none-behind : length text ≤ e → Did edit (inside_part m s at k piece) (Ok Edit·case.Apart) m
    none-behind h = no_part (ap (λ (t : List ℕ). lies_inside t at k) (sym is) ∙ lies-end text at k more (omega (arith, end)))

    pub some-inside : e < length text → (i : ℕ) → i ≡ byte_in text (at - k) → (r : Answer Edit) (after : List ℕ) → Stepped (leaf_stepped m s i e piece) m r after
        → Did edit (inside_part m s at k piece) r after
    some-inside h i start r after p =
        let z : lies_inside (leaf_text m s) at k ≡ true = ap (λ (t : List ℕ). lies_inside t at k) (sym is) ∙ lies_so text at k more (omega (arith, end)) in
        let y : settled m (leaf_stepped m s i e piece) ≡ stepped (leaf_text m s)
        = ap (λ (x : ℕ). settled m (leaf_stepped m s x e piece)) start ∙ ap (λ (x : ℕ). settled m (leaf_stepped m s (byte_in text (at - k)) x piece)) end ∙ ap stepped is in
        subst (λ (a : Act Made). Did edit a r after) (y ∙ inside-by true z) (record { answered = p.answered; memory = p.memory })

module _ (m : List ℕ) (s at : ℕ) (part : Part) (piece : List ℕ) (r : Answer Edit) (after : List ℕ) where
  pub part_bytes : (i e : ℕ) → part ≡ Part·case.Bytes i e → Stepped (leaf_stepped m s i e piece) m r after → Did edit (leaf_part m s at part piece) r after
  part_bytes i e z p = subst (λ (x : Part). Did edit (leaf_part m s at x piece) r after) (sym z) (record { answered = p.answered; memory = p.memory })

  pub part-inside : (k : ℕ) → part ≡ Part·case.Inside k → Did edit (inside_part m s at k piece) r after → Did edit (leaf_part m s at part piece) r after
  part-inside k z d = subst (λ (x : Part). Did edit (leaf_part m s at x piece) r after) (sym z) d

-- ── one level down ──

module _ (m : List ℕ) (h s : ℕ) (by : Measure) (at : ℕ) (part : Part) (piece : List ℕ) where
  pub at_leaf : (r : Answer Edit) (after : List ℕ) → h ≡ 0 → Did edit (leaf_part m s at part piece) r after → Did edit (edited_at m h s by at part piece) r after
  unfolding edited_at
  at_leaf r after z d = rw z d

  -- an edit of the child that was found, and the step up
  abbrev pub on_child : ℕ × (ℕ × TextSum) → Act Made
  on_child c = risen_after (edited_at m (h - 1) c.1.0 by (at - count_in by c.1.1) part piece) s c.0

module _ (m : List ℕ) (s : ℕ) (by : Measure) (at : ℕ) (part : Part) (piece : List ℕ) where
  in_list : (h : ℕ) → 0 < h → reading m (branch_at m s by at) (on_child m h s by at part piece) ≡ edited_at m h s by at part piece
  unfolding edited_at
  in_list zero g = absurd (omega arith)
  in_list (suc h) g =
      let z : suc h - 1 ≡ h = omega arith in
      ap (λ (x : ℕ). reading m (branch_at m s by at) (λ c. risen_after (edited_at m x c.1.0 by (at - count_in by c.1.1) part piece) s c.0)) z

  module _ (h : ℕ) (some : 0 < h) (b : Answer (ℕ × (ℕ × TextSum))) (promise : outcome b ≡ branch_at m s by at) where
    next : reading m (outcome b) (on_child m h s by at part piece) ≡ edited_at m h s by at part piece
    next = ap (λ (o : Outcome (ℕ × (ℕ × TextSum))). reading m o (on_child m h s by at part piece)) promise ∙ in_list h some

    pub no-child : (q : Refusal) (after : List ℕ) → b ≡ Err q → after ≡ m → Did edit (edited_at m h s by at part piece) (Err q) after
    no-child q after z k =
        subst (λ (o : Act Made). Did edit o (Err q) after) (ap (λ (x : Answer (ℕ × (ℕ × TextSum))). reading m (outcome x) (on_child m h s by at part piece)) (sym z) ∙ next)
        (record { answered = refl; memory = k })

    pub in-child : (j k : ℕ) (left : TextSum) → b ≡ Ok (j, (k, left)) → (rest : ℕ) → rest ≡ at - count_in by left
        → (made : Answer Edit) (l : List ℕ) → Did edit (edited_at m (h - 1) k by rest part piece) made l
        → (x : Answer Edit) → made ≡ x → (r : Answer Edit) (after : List ℕ) → Did edit (risen_by l s j (edit x)) r after → Did edit (edited_at m h s by at part piece) r after
    in-child j k left z rest q made l d x was r after done =
        let o = edited_at m (h - 1) k by rest part piece in
        let up : risen_by l s j (edit x) ≡ risen_after o s j
        = ap (λ (y : List ℕ). risen_by y s j (edit x)) d.memory ∙ ap (risen_by o.1 s j) (ap edit (sym was) ∙ d.answered) in
        let down : risen_after o s j ≡ on_child m h s by at part piece (j, (k, left)) = ap (λ (x : ℕ). risen_after (edited_at m (h - 1) k by x part piece) s j) q in
        subst (λ (a : Act Made). Did edit a r after) (up ∙ down ∙ ap (λ (x : Answer (ℕ × (ℕ × TextSum))). reading m (outcome x) (on_child m h s by at part piece)) (sym z) ∙ next) done
