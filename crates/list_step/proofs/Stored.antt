-- From the answers of the calls below to the outcomes of `Steps`: children stored in one list, in two, and with one child more.
use Rattle.std.specs.Prelude.{Ok, Err}
use mathlib.Core.Path.{◌≡◌, refl, sym, ap, subst, ◌∙◌}
use mathlib.Core.Bool.{Bool, true, false, cond}
use mathlib.Core.List.{List, [], ◌∷◌}
use Prim.Native.Nat.{ℕ, ◌+◌, ◌≤◌, ◌<◌}
use native.Mathlib.Omega.{arith}
use lib.ListN.{length, take, drop, length-append, length-take, length-drop}
use borrow.Author.Tests.{lt-ltb, le-ltb}
use Rattle.plain.specs.Outcome.{Outcome, Outcome.value, Outcome.refused, kept, mapped}
use Rattle.plain.proofs.Outcome.{one-applies, one-passed, accepted, all-accepted}
use Rattle.answer.specs.Answers.{refusal_number, Answer, outcome}
use Rattle.answer.specs.declared.Refusal.{Refusal}
use Rattle.answer.proofs.Unique.{answer-one}
use Rattle.answer.proofs.Opened.{never-refused}
use Rattle.leaf_bytes.proofs.Opened.{never}
use Rattle.text_info.specs.declared.TextInfo.{TextInfo}
use Rattle.pool.specs.declared.Kid.{Kid}
use Rattle.pool.specs.Slot.{slot_start, next_of}
use Rattle.pool.specs.Calls.{outside, Wrote}
use Rattle.pool.proofs.Opened.{wrote-never}
use Rattle.node_children.specs.declared.NodeChildren.{NodeChildren}
use Rattle.node_children.specs.declared.Listed.{Listed}
use Rattle.node_children.specs.declared.Two.{Two}
use Rattle.node_children.specs.Kids.{kids, list_of, Listing, Parting}
use Rattle.node_children.specs.Calls.{with_kid, left_of, halves, inserted, inserted_split}
use Rattle.node_children.proofs.Rules.{inserted-done, insert-split-done}
use Rattle.nodes.specs.Node.{too_wide, narrowed, total_of, list_put, Fitting}
use Rattle.nodes.specs.Calls.{stored, list_counted, Fitted}
use Rattle.nodes.proofs.Heads.{inside, one-refused}
use Rattle.nodes.proofs.Rules.{few-counted, stored_is}
use Rattle.nodes.proofs.Accepted.{list-counted-only}
use Rattle.nodes.proofs.Put.{list-size}
use Rattle.edit_steps.specs.declared.Edit.{Edit}
use Rattle.edit_steps.specs.declared.Edit.TheVariants as Edit·case
use Rattle.edit_steps.specs.Made.{Made, Made.same, Made.split, Made.small, sized, Stepped}
use Rattle.edit_steps.specs.Grown.{kid}
use Rattle.note_head.proofs.Written.{number-around}
use Rattle.note_head.specs.Head.{free_of}
use Rattle.free_slots.specs.Slots.{no_free, taken_memory, taken, Took}
use Rattle.free_slots.proofs.Rules.{taken-some}
use Rattle.list_step.specs.Steps.{and_then, recounted, keeping, laying, parting, adding, two_put}
use Rattle.list_step.proofs.Rules.{step-done, step-refused, step-as, list-len}

-- ── counts ──

module _ (c : NodeChildren) (few : c.len ≤ 16) (r : Answer TextInfo) (p : outcome r ≡ list_counted c) where
  -- the counts were refused, and so were they too wide
  pub wide : (q : Refusal) → r ≡ Err q → (too_wide (total_of (kids c)) ≡ true) × (refusal_number q ≡ 2)
  wide q e = one-refused 2 (too_wide (total_of (kids c))) (narrowed (total_of (kids c))) (refusal_number q) (sym (ap outcome e) ∙ p ∙ few-counted c few)

  pub narrow : (i : TextInfo) → r ≡ Ok i → (too_wide (total_of (kids c)) ≡ false) × (i ≡ narrowed (total_of (kids c)))
  narrow i e = let o = list-counted-only c i (sym p ∙ ap outcome e) in (o.1, o.2)

-- ── one list ──

module _ (m : List ℕ) (p : ℕ) (c : NodeChildren) where
  pub keeping-not : (q : ℕ) → q ≡ 2 → too_wide (total_of (kids c)) ≡ true → keeping m p c ≡ refused q
  unfolding keeping
  keeping-not q z e =
      one-applies 2 (too_wide (total_of (kids c))) (sized 4 c.len (narrowed (total_of (kids c))), list_put m p c) e ∙ ap (λ (k : ℕ). refused k) (sym z)

  pub keeping-is : too_wide (total_of (kids c)) ≡ false → keeping m p c ≡ value (sized 4 c.len (narrowed (total_of (kids c))), list_put m p c)
  unfolding keeping
  keeping-is e = one-passed 2 (too_wide (total_of (kids c))) (sized 4 c.len (narrowed (total_of (kids c))), list_put m p c) e

  -- a call of `store` on a slot that is there
  pub was-stored : (v : Answer (Unit {0})) (after : List ℕ) → Wrote (stored m p c) m v after × Fitted v c.arr → slot_start p + 640 ≤ length m → c.len ≤ 16
      → (after ≡ list_put m p c) × Fitting c.arr
  was-stored v after w h k =
      let e = stored_is m p c h k in
      let z = answer-one v (Ok tt) (w.0.answered ∙ ap (mapped (λ x. tt)) e) in
      (w.0.memory ∙ ap (λ (o : Outcome (List ℕ)). kept m o) e, subst (λ (x : Answer (Unit {0})). Fitted x c.arr) z w.1)

  pub stored-never : {X : Type 0} (v : Answer (Unit {0})) (after : List ℕ) → Wrote (stored m p c) m v after × Fitted v c.arr → slot_start p + 640 ≤ length m → c.len ≤ 16
      → (q : Refusal) → v ≡ Err q → X
  stored-never v after w h k q e = wrote-never _ m v after w.0 _ (stored_is m p c h k) q e

  module _ (there : outside m p ≡ false) (few : c.len ≤ 16) (r : Answer TextInfo) (counted : outcome r ≡ list_counted c) where
    pub keep-refused : (q : Refusal) (after : List ℕ) → r ≡ Err q → after ≡ m → Stepped (keeping m p c) m (Err q) after
    keep-refused q after e g = let w = wide c few r counted q e in step-refused (keeping m p c) m q after (keeping-not (refusal_number q) w.1 w.0) g

    module _ (i : TextInfo) (e : r ≡ Ok i) (v : Answer (Unit {0})) (after : List ℕ) (w : Wrote (stored m p c) m v after × Fitted v c.arr) where
      sized-is : keeping m p c ≡ value (sized 4 c.len i, list_put m p c)
      sized-is = let n = narrow c few r counted i e in keeping-is n.0 ∙ ap (λ (x : TextInfo). value (sized 4 c.len x, list_put m p c)) (sym n.1)

      lies : after ≡ list_put m p c
      lies = (was-stored v after w (inside m p there) few).0

      pub keep-never : {X : Type 0} (q : Refusal) → v ≡ Err q → X
      keep-never q f = stored-never v after w (inside m p there) few q f

      pub keep-small : c.len < 4 → Stepped (keeping m p c) m (Ok (Edit·case.Small i)) after
      keep-small h =
          step-done (keeping m p c) m (sized 4 c.len i) (list_put m p c) after (Ok (Edit·case.Small i)) sized-is
          (ap (λ (b : Bool). value (cond b (small i) (same i))) (sym (lt-ltb c.len 4 h))) lies

      pub keep_same : 4 ≤ c.len → Stepped (keeping m p c) m (Ok (Edit·case.Same i)) after
      keep_same h =
          step-done (keeping m p c) m (sized 4 c.len i) (list_put m p c) after (Ok (Edit·case.Same i)) sized-is
          (ap (λ (b : Bool). value (cond b (small i) (same i))) (sym (le-ltb c.len 4 h))) lies

-- ── two lists ──

taken-all : (m : List ℕ) (t : ℕ × List ℕ) → taken m ≡ value t → t ≡ (free_of m, taken_memory m)
unfolding taken
taken-all m t e =
    let a = accepted 2 (no_free m (free_of m)) [] (free_of m, taken_memory m) t e in
    sym (all-accepted (free_of m, taken_memory m) t a.1)

module _ (m : List ℕ) (p : ℕ) (a : NodeChildren) (i : TextInfo) (b : NodeChildren) (j : TextInfo) where
  abbrev both : ℕ × List ℕ → Outcome (Made × List ℕ)
  both t = value (split i t.0 j, list_put (list_put t.1 p a) t.0 b)

  pub laying-by : (o : Outcome (ℕ × List ℕ)) → taken m ≡ o → laying m p a i b j ≡ and_then o both
  unfolding laying
  laying-by o e = ap (λ (x : Outcome (ℕ × List ℕ)). and_then x both) e

  module _ (r : Answer ℕ) (l : List ℕ) (took : Took (taken m) m r l) where
    pub lay-refused : (q : Refusal) → r ≡ Err q → Stepped (laying m p a i b j) m (Err q) l
    lay-refused q e = go (taken m) refl took
      where
        go : (o : Outcome (ℕ × List ℕ)) → taken m ≡ o → Took o m r l → Stepped (laying m p a i b j) m (Err q) l
        go (value t) z w = absurd (never (refusal_number q) t.0 (sym (ap outcome e) ∙ w.answered))
        go (refused n) z w =
            let y : ◌≡◌ {A = Outcome ℕ} (refused (refusal_number q)) (refused n) = sym (ap outcome e) ∙ w.answered in
            let x : refusal_number q ≡ n = cc in
            step-refused (laying m p a i b j) m q l (laying-by (refused n) z ∙ ap (λ (k : ℕ). refused k) (sym x)) w.memory

    took-value : (u : ℕ) → r ≡ Ok u → taken m ≡ value (u, l)
    took-value u e = go (taken m) refl took
      where
        go : (o : Outcome (ℕ × List ℕ)) → taken m ≡ o → Took o m r l → taken m ≡ value (u, l)
        go (refused n) z w = absurd (never n u (sym w.answered ∙ ap outcome e))
        go (value t) z w =
            let y : ◌≡◌ {A = Outcome ℕ} (value u) (value t.0) = sym (ap outcome e) ∙ w.answered in
            let x : u ≡ t.0 = cc in
            z ∙ ap (λ (s : ℕ). value (s, t.1)) (sym x) ∙ ap (λ (s : List ℕ). value (u, s)) (sym w.memory)

    module _ (there : outside m p ≡ false) (few : a.len ≤ 16) (less : b.len ≤ 16) (u : ℕ) (e : r ≡ Ok u) where
      -- the slot taken lies in the memory, which is as long as before
      lies-there : (slot_start u + 640 ≤ length m) × (length l ≡ length m)
      lies-there =
          let t = took-value u e in
          let h = taken-some m u (ap (mapped (λ q. q.0)) t) in
          let y = taken-all m (u, l) t in
          (omega (arith, ap (λ (q : ℕ × List ℕ). q.0) y), ap (λ (q : ℕ × List ℕ). length q.1) y ∙ (number-around m (omega arith) 32 (next_of m (free_of m)) (omega arith)).size)

      module _ (v : Answer (Unit {0})) (n : List ℕ) (f : Wrote (stored l p a) l v n × Fitted v a.arr) where
        first-there : slot_start p + 640 ≤ length l
        first-there = omega (arith, inside m p there, lies-there.1)

        pub left-never : {X : Type 0} (q : Refusal) → v ≡ Err q → X
        left-never q z = stored-never l p a v n f first-there few q z

        left-stored : (n ≡ list_put l p a) × Fitting a.arr
        left-stored = was-stored l p a v n f first-there few

        other-there : slot_start u + 640 ≤ length n
        other-there = omega (arith, lies-there.0, lies-there.1, ap length left-stored.0 ∙ list-size l p a first-there few left-stored.1.sixteen)

        module _ (w : Answer (Unit {0})) (after : List ℕ) (g : Wrote (stored n u b) n w after × Fitted w b.arr) where
          pub right-never : {X : Type 0} (q : Refusal) → w ≡ Err q → X
          right-never q z = stored-never n u b w after g other-there less q z

          pub lay_done : Stepped (laying m p a i b j) m (Ok (Edit·case.Split i u j)) after
          lay_done =
              step-done (laying m p a i b j) m (split i u j) (list_put (list_put l p a) u b) after (Ok (Edit·case.Split i u j)) (laying-by (value (u, l)) (took-value u e)) refl
              ((was-stored n u b w after g other-there less).0 ∙ ap (λ (s : List ℕ). list_put s u b) left-stored.0)

module _ (m : List ℕ) (p : ℕ) (a b : NodeChildren) where
  abbrev left : TextInfo
  left = narrowed (total_of (kids a))

  abbrev right : TextInfo
  right = narrowed (total_of (kids b))

  parting-left : too_wide (total_of (kids a)) ≡ true → parting m p a b ≡ refused 2
  unfolding parting
  parting-left e = rw e

  parting-right : too_wide (total_of (kids a)) ≡ false → too_wide (total_of (kids b)) ≡ true → parting m p a b ≡ refused 2
  unfolding parting
  parting-right e f = rw (e, f)

  pub parting-is : too_wide (total_of (kids a)) ≡ false → too_wide (total_of (kids b)) ≡ false → parting m p a b ≡ laying m p a left b right
  unfolding parting
  parting-is e f = rw (e, f)

  module _ (few : a.len ≤ 16) (r : Answer TextInfo) (counted : outcome r ≡ list_counted a) where
    pub part_left : (q : Refusal) (after : List ℕ) → r ≡ Err q → after ≡ m → Stepped (parting m p a b) m (Err q) after
    part_left q after e g =
        let w = wide a few r counted q e in
        step-refused (parting m p a b) m q after (parting-left w.0 ∙ ap (λ (k : ℕ). refused k) (sym w.1)) g

    module _ (i : TextInfo) (e : r ≡ Ok i) (less : b.len ≤ 16) (s : Answer TextInfo) (other : outcome s ≡ list_counted b) where
      pub part_right : (q : Refusal) (after : List ℕ) → s ≡ Err q → after ≡ m → Stepped (parting m p a b) m (Err q) after
      part_right q after f g =
          let w = wide b less s other q f in
          step-refused (parting m p a b) m q after (parting-right (narrow a few r counted i e).0 w.0 ∙ ap (λ (k : ℕ). refused k) (sym w.1)) g

      pub part-done : (j : TextInfo) (x : Answer Edit) (after : List ℕ) → s ≡ Ok j → Stepped (laying m p a i b j) m x after → Stepped (parting m p a b) m x after
      part-done j x after f w =
          let n = narrow a few r counted i e in
          let k = narrow b less s other j f in
          step-as (parting m p a b) m (laying m p a i b j) x after
          (parting-is n.0 k.0 ∙ ap (λ (t : TextInfo). laying m p a t b right) (sym n.1) ∙ ap (λ (t : TextInfo). laying m p a i b t) (sym k.1)) w

-- ── one child more ──

module _ (m : List ℕ) (p j : ℕ) (k : Kid) (c : NodeChildren) where
  abbrev more : List Kid
  more = with_kid j k (kids c)

  more-length : c.len ≤ 16 → j ≤ c.len → length more ≤ c.len + 1
  more-length few h = omega (arith, length-append (take j (kids c)) (k ∷ drop j (kids c)), length-take j (kids c), length-drop j (kids c), length-take c.len c.arr)

  pub adding-one : c.len < 16 → adding m p j k c ≡ keeping m p (list_of more)
  unfolding adding
  adding-one h = rw (lt-ltb c.len 16 h)

  pub adding-two : 16 ≤ c.len → adding m p j k c ≡ parting m p (halves more).0 (halves more).1
  unfolding adding
  adding-two h = rw (le-ltb c.len 16 h)

  module _ (h : j ≤ c.len) (r : Listed) (w : Listing (inserted c j k) c r) (room : c.len < 16) where
    inserted-is : r.list ≡ list_of more
    inserted-is = w.list ∙ ap (kept c) (inserted-done c j k h room)

    pub insert-never : {X : Type 0} (q : Refusal) → r.verdict ≡ Err q → X
    insert-never q e = never-refused q r.verdict tt (w.answered ∙ ap (mapped (λ x. tt)) (inserted-done c j k h room)) e

    pub one-few : r.list.len ≤ 16
    one-few = omega (arith, ap (λ (x : NodeChildren). x.len) inserted-is ∙ list-len more, more-length (omega arith) h)

    pub add-one-done : (x : Answer Edit) (after : List ℕ) → Stepped (keeping m p r.list) m x after → Stepped (adding m p j k c) m x after
    add-one-done x after s = step-as (adding m p j k c) m (keeping m p r.list) x after (adding-one room ∙ ap (keeping m p) (sym inserted-is)) s

  module _ (h : j ≤ c.len) (few : c.len ≤ 16) (t : Two) (w : Parting (inserted_split c j k) c (list_of []) t) (full : 16 ≤ c.len) where
    split-is : inserted_split c j k ≡ value (halves more)
    split-is = insert-split-done c j k (omega arith) h few

    pub split-never : {X : Type 0} (q : Refusal) → t.verdict ≡ Err q → X
    split-never q e = never-refused q t.verdict tt (w.answered ∙ ap (mapped (λ x. tt)) split-is) e

    left_is : t.left ≡ (halves more).0
    left_is = w.left-list ∙ ap (λ (o : Outcome (NodeChildren × NodeChildren)). kept c (mapped (λ x. x.0) o)) split-is

    right_is : t.right ≡ (halves more).1
    right_is = w.right-list ∙ ap (λ (o : Outcome (NodeChildren × NodeChildren)). kept (list_of []) (mapped (λ x. x.1) o)) split-is

    pub two-few : (t.left.len ≤ 16) × (t.right.len ≤ 16)
    two-few =
        let n = more-length few h in
        let at = left_of (length more) in (
          omega (arith, ap (λ (x : NodeChildren). x.len) left_is ∙ list-len (take at more), length-take at more),
          omega (arith, ap (λ (x : NodeChildren). x.len) right_is ∙ list-len (drop at more), length-drop at more),
        )

    pub add-two-done : (x : Answer Edit) (after : List ℕ) → Stepped (parting m p t.left t.right) m x after → Stepped (adding m p j k c) m x after
    add-two-done x after s =
        step-as (adding m p j k c) m (parting m p t.left t.right) x after
        (adding-two full ∙ ap (λ (l : NodeChildren). parting m p l (halves more).1) (sym left_is) ∙ ap (λ (l : NodeChildren). parting m p t.left l) (sym right_is)) s

-- ── the calls ──

module _ (m : List ℕ) (p i : ℕ) (new : TextInfo) where
  module _ (right : ℕ) (other : TextInfo) where
    pub two_past : 4294967295 < right → two_put m p i new right other ≡ refused 2
    unfolding two_put
    two_past h = rw (lt-ltb 4294967295 right h)

    pub two-by : (o : Outcome NodeChildren) → right ≤ 4294967295 → recounted m p i new ≡ o → two_put m p i new right other ≡ and_then o (adding m p (i + 1) (kid right other))
    unfolding two_put
    two-by o h e = rw (le-ltb 4294967295 right h, e)
