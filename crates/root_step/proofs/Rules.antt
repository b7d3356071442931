-- From the answers of the calls below to the definitions of `Root`: what each path of the code makes of a call.
use Rattle.std.specs.Prelude.{Ok, Err}
use mathlib.Core.Path.{◌≡◌, refl, sym, ap, subst, ◌∙◌}
use mathlib.Core.Bool.{Bool, true, false, not, ◌&&◌, cond}
use mathlib.Core.List.{List, [], ◌∷◌, ◌++◌}
use Prim.Native.Nat.{ℕ, ◌+◌, ◌-◌, ◌≤◌, ◌<◌}
use native.Mathlib.Omega.{arith}
use lib.Dec.{eqb}
use lib.ListN.{length, get_or}
use borrow.Author.Tests.{lt-ltb, le-ltb, eq-eqb, ne_eqb}
use Rattle.plain_note.specs.Note.{head_size}
use Rattle.plain.specs.Outcome.{Outcome, Outcome.value, Outcome.refused, past, kept, mapped}
use Rattle.plain.proofs.Logic.{cut, and_none}
use Rattle.plain.proofs.Outcome.{one-applies, one-passed}
use Rattle.answer.specs.Answers.{refusal_number, Answer, outcome}
use Rattle.answer.specs.declared.Refusal.{Refusal}
use Rattle.answer.proofs.Opened.{never-refused}
use Rattle.leaf_bytes.proofs.Opened.{never}
use Rattle.text_info.specs.declared.TextInfo.{TextInfo}
use Rattle.pool.specs.declared.Kid.{Kid}
use Rattle.octets.specs.Big.{two_at, four_at}
use Rattle.pool.specs.Slot.{slot_start, len_of, next_of, no_kid}
use Rattle.pool.specs.Calls.{Wrote}
use Rattle.node_children.specs.declared.NodeChildren.{NodeChildren}
use Rattle.node_children.specs.declared.Listed.{Listed}
use Rattle.node_children.specs.Kids.{Holds, kids, list_of, Listing}
use Rattle.node_children.specs.Calls.{pushed}
use Rattle.node_children.proofs.Lists.{kids-of, is-kids, clean-length}
use Rattle.node_children.proofs.Holding.{pushed-holds}
use Rattle.node_children.proofs.Rules.{pushed-done}
use Rattle.nodes.specs.Node.{is_list, children_of, too_wide, narrowed, total_of, list_put}
use Rattle.nodes.specs.Calls.{loaded, stored, Fitted, list_counted}
use Rattle.nodes.proofs.Rules.{loaded-is, loaded-not}
use Rattle.tree.proofs.Sound.{children-length}
use Rattle.note_head.specs.Head.{root_of, height_of, free_of}
use Rattle.note_head.specs.Writes.{root_put, height_put, root_set, height_set}
use Rattle.note_head.proofs.Laid.{root-short, root-it, root-there, height-it, height-there}
use Rattle.note_head.proofs.Written.{number-around, root-around}
use Rattle.edit_steps.specs.declared.Edit.{Edit}
use Rattle.edit_steps.specs.declared.Edit.TheVariants as Edit·case
use Rattle.edit_steps.specs.Made.{edit}
use Rattle.edit_steps.specs.Acts.{Act, reading, Did}
use Rattle.edit_steps.specs.Grown.{kid}
use Rattle.free_slots.specs.Slots.{no_free, taken_memory, taken, given, Took}
use Rattle.free_slots.proofs.Rules.{taken_not, taken-some}
use Rattle.list_step.proofs.Rules.{list-len}
use Rattle.list_step.proofs.Stored.{wide, narrow, was-stored, stored-never}
use Rattle.root_step.specs.Root.{top_put, raised, grown, only, gave_way, shrunk, rooted, rooted_by}

abbrev Step : Type 0
Step = Act (Unit {0})

module _ (o : Step) (r : Answer (Unit {0})) (after : List ℕ) where
  pub did-as : (p : Step) → o ≡ p → Did outcome p r after → Did outcome o r after
  did-as p e d = subst (λ (x : Step). Did outcome x r after) (sym e) d

  pub did-is : (a : Outcome (Unit {0})) (l : List ℕ) → o ≡ (a, l) → outcome r ≡ a → after ≡ l → Did outcome o r after
  did-is a l e f g = did-as (a, l) e (record { answered = f; memory = g })

-- ── a node put on top ──

module _ (m : List ℕ) (k : Kid) (h : ℕ) where
  abbrev put : List ℕ
  put = height_put (root_put m k) h

  top-short : length m < head_size → top_put m k h ≡ (refused 2, m)
  unfolding top_put
  top-short s = ap (λ (o : Outcome (List ℕ)). reading m o (λ l. (value tt, l))) (one-applies 2 (past head_size (length m)) put (lt-ltb (length m) head_size s))

  pub top-it : head_size ≤ length m → top_put m k h ≡ (value tt, put)
  unfolding top_put
  top-it s = ap (λ (o : Outcome (List ℕ)). reading m o (λ l. (value tt, l))) (one-passed 2 (past head_size (length m)) put (le-ltb (length m) head_size s))

  module _ (v : Answer (Unit {0})) (l : List ℕ) (w : Wrote (root_set m k) m v l) where
    pub top-refused : (q : Refusal) → v ≡ Err q → Did outcome (top_put m k h) v l
    top-refused q e =
        cut (length m) head_size
        (λ s. let o = root-short m s k in
        did-is (top_put m k h) v l (refused 2) m (top-short s) (w.answered ∙ ap (mapped (λ x. tt)) o) (w.memory ∙ ap (λ (x : Outcome (List ℕ)). kept m x) o))
        (λ s. absurd (never (refusal_number q) tt (sym (ap outcome e) ∙ w.answered ∙ ap (mapped (λ x. tt)) (root-it m s k))))

    pub top-done : v ≡ (Ok tt) → (u : Answer (Unit {0})) (after : List ℕ) → Wrote (height_set l h) l u after → Did outcome (top_put m k h) u after
    top-done e u after x =
        cut (length m) head_size
        (λ s. absurd (never 2 tt (sym (w.answered ∙ ap (mapped (λ x. tt)) (root-short m s k)) ∙ ap outcome e)))
        (λ s. let z = root-there m s v l k w in
        let n : head_size ≤ length l = omega (arith, ap length z, (root-around m s k).size) in
        did-is (top_put m k h) u after (value tt) put (top-it s) (x.answered ∙ ap (mapped (λ x. tt)) (height-it l n h))
        (height-there l n u after h x ∙ ap (λ (y : List ℕ). height_put y h) z))

-- ── a slot taken ──

module _ (m : List ℕ) (r : Answer ℕ) (l : List ℕ) (took : Took (taken m) m r l) where
  -- nothing was taken
  none-taken : (q : Refusal) → r ≡ Err q → (taken m ≡ refused (refusal_number q)) × (l ≡ m)
  none-taken q e = go (taken m) refl took
    where
      go : (o : Outcome (ℕ × List ℕ)) → taken m ≡ o → Took o m r l → (taken m ≡ refused (refusal_number q)) × (l ≡ m)
      go (value t) z w = absurd (never (refusal_number q) t.0 (sym (ap outcome e) ∙ w.answered))
      go (refused n) z w =
          let y : ◌≡◌ {A = Outcome ℕ} (refused (refusal_number q)) (refused n) = sym (ap outcome e) ∙ w.answered in
          let x : refusal_number q ≡ n = cc in
          (z ∙ ap (λ (k : ℕ). refused k) (sym x), w.memory)

  pub record Got (u : ℕ) : Type 0 where
    pub first : u ≡ free_of m
    pub there : slot_start u + 640 ≤ length m
    pub long : length l ≡ length m
    pub is : taken m ≡ value (u, l)

  -- the first free slot was
  pub some-taken : (u : ℕ) → r ≡ Ok u → Got u
  some-taken u e = go (no_free m (free_of m)) refl
    where
      as-taken : (u : ℕ) → u ≡ free_of m → l ≡ taken_memory m → taken m ≡ value (free_of m, taken_memory m) → taken m ≡ value (u, l)
      as-taken u x n i = i ∙ ap (λ (s : ℕ). value (s, taken_memory m)) (sym x) ∙ ap (λ (s : List ℕ). value (u, s)) (sym n)

      go : (b : Bool) → no_free m (free_of m) ≡ b → Got u
      go true z = absurd (never 2 u (sym (took.answered ∙ ap (mapped (λ q. q.0)) (taken_not m z)) ∙ ap outcome e))
      go false z =
          let i : taken m ≡ value (free_of m, taken_memory m) = unfold taken in one-passed 2 (no_free m (free_of m)) (free_of m, taken_memory m) z in
          let y : ◌≡◌ {A = Outcome ℕ} (value u) (value (free_of m)) = sym (ap outcome e) ∙ took.answered ∙ ap (mapped (λ q. q.0)) i in
          let x : u ≡ free_of m = cc in
          let n : l ≡ taken_memory m = took.memory ∙ ap (λ (o : Outcome (ℕ × List ℕ)). kept m (mapped (λ q. q.1) o)) i in
          let h = taken-some m (free_of m) (ap (mapped (λ q. q.0)) i) in
          record {
            first = x;
            there = omega arith;
            long = ap length n ∙ (number-around m (omega arith) 32 (next_of m (free_of m)) (omega arith)).size;
            is = as-taken u x n i;
          }

-- four bytes make a number of 32 bits
module _ (m : List ℕ) (f : (i : ℕ) → get_or m i 0 < 256) where
  two-narrow : (i : ℕ) → two_at m i < 65536
  unfolding two_at
  two-narrow i = omega (arith, f i, f (i + 1))

  pub first-narrow : free_of m < 4294967296
  unfolding free_of four_at
  first-narrow = omega (arith, two-narrow 32, two-narrow 34)

-- ── a list above two children ──

module _ (m : List ℕ) (ks : List Kid) (h : ℕ) where
  abbrev on : ℕ × List ℕ → Step
  on t = top_put (list_put t.1 t.0 (list_of ks)) (kid t.0 (narrowed (total_of ks))) (h + 1)

  raised-wide : too_wide (total_of ks) ≡ true → raised m ks h ≡ (refused 2, m)
  unfolding raised
  raised-wide e = rw e

  pub raised_by : (o : Outcome (ℕ × List ℕ)) → too_wide (total_of ks) ≡ false → taken m ≡ o → raised m ks h ≡ reading m o on
  unfolding raised
  raised_by o e f = rw (e, f)

module _ (m : List ℕ) (c : NodeChildren) (h : ℕ) where
  abbrev family : List Kid
  family = kids c

  module _ (few : c.len ≤ 16) (r : Answer TextInfo) (counted : outcome r ≡ list_counted c) where
    pub raise-wide : (q : Refusal) → r ≡ Err q → Did outcome (raised m family h) (Err q) m
    raise-wide q e =
        let w = wide c few r counted q e in
        did-is (raised m family h) (Err q) m (refused 2) m (raised-wide m family h w.0) (ap (λ (n : ℕ). refused n) w.1) refl

    module _ (i : TextInfo) (e : r ≡ Ok i) (x : Answer ℕ) (l : List ℕ) (took : Took (taken m) m x l) where
      pub raise-full : (q : Refusal) → x ≡ Err q → Did outcome (raised m family h) (Err q) l
      raise-full q f =
          let t = none-taken m x l took q f in
          did-is (raised m family h) (Err q) l (refused (refusal_number q)) m (raised_by m family h (refused (refusal_number q)) (narrow c few r counted i e).0 t.0) refl t.1

      pub raise-never : {X : Type 0} (u : ℕ) → x ≡ Ok u → (v : Answer (Unit {0})) (a : List ℕ) → Wrote (stored l u c) l v a × Fitted v c.arr
          → (q : Refusal) → v ≡ Err q → X
      raise-never u f v a s q z = let t = some-taken m x l took u f in stored-never l u c v a s (omega (arith, t.there, t.long)) few q z

      pub raise-done : c ≡ list_of family → (u : ℕ) → x ≡ Ok u → (v : Answer (Unit {0})) (a : List ℕ) → Wrote (stored l u c) l v a × Fitted v c.arr
          → (w : Answer (Unit {0})) (after : List ℕ) → Did outcome (top_put a (kid u i) (h + 1)) w after → Did outcome (raised m family h) w after
      raise-done clean u f v a s w after d =
          let t = some-taken m x l took u f in
          let n = narrow c few r counted i e in
          let z = (was-stored l u c v a s (omega (arith, t.there, t.long)) few).0 in
          did-as (raised m family h) w after (top_put a (kid u i) (h + 1))
          (raised_by m family h (value (u, l)) n.0 t.is
          ∙ ap (λ (j : TextInfo). top_put (list_put l u (list_of family)) (kid u j) (h + 1)) (sym n.1)
          ∙ ap (λ (b : List ℕ). top_put b (kid u i) (h + 1)) (ap (list_put l u) (sym clean) ∙ sym z))
          d

-- two children in a list
module _ (a b : Kid) (c : NodeChildren) (r : Listed) (e : c ≡ list_of []) (p : Listing (pushed c a) c r) where
  none : c.len ≡ 0
  none = ap (λ (x : NodeChildren). x.len) e ∙ list-len []

  one : r.list ≡ list_of (a ∷ [])
  one = p.list ∙ ap (kept c) (pushed-done c a (omega (arith, none))) ∙ ap (λ (x : List Kid). list_of (x ++ (a ∷ []))) (is-kids c [] e)

  pub first-never : {X : Type 0} (q : Refusal) → r.verdict ≡ Err q → X
  first-never q f = never-refused q r.verdict tt (p.answered ∙ ap (mapped (λ x. tt)) (pushed-done c a (omega (arith, none)))) f

  pub pair-done : (s : Listed) → Listing (pushed r.list b) r.list s → Listing (value (list_of (a ∷ b ∷ []))) (list_of []) s
  pair-done s q =
      let o = pushed-done r.list b (omega (arith, ap (λ (x : NodeChildren). x.len) one ∙ list-len (a ∷ []))) in
      record {
        answered = q.answered ∙ ap (mapped (λ x. tt)) o;
        list = q.list ∙ ap (kept r.list) o ∙ ap (λ (x : List Kid). list_of (x ++ (b ∷ []))) (is-kids r.list (a ∷ []) one);
      }

-- both pushed, the list holds them
module _ (a b : Kid) (c : NodeChildren) (r s : Listed) (e : c ≡ list_of []) (p : Listing (pushed c a) c r) (q : Listing (pushed r.list b) r.list s) where
  first : r.list ≡ list_of (a ∷ [])
  first = one a b c r e p

  first-len : r.list.len ≡ 1
  first-len = ap (λ (x : NodeChildren). x.len) first ∙ list-len (a ∷ [])

  pub two : Holds s.list (r.list.len + 1) (kids r.list ++ (b ∷ []))
  two = pushed-holds r.list (clean-length r.list (first ∙ ap list_of (sym (is-kids r.list (a ∷ []) first)))) b s (omega (arith, first-len)) q

  pub two-few : s.list.len < 16
  two-few = omega (arith, first-len, two.len)

  pub two-are : kids s.list ≡ a ∷ b ∷ []
  two-are = ap kids two.is ∙ kids-of (kids r.list ++ (b ∷ [])) ∙ ap (λ (x : List Kid). x ++ (b ∷ [])) (is-kids r.list (a ∷ []) first)

module _ (a b : Kid) (r : Listed) (w : Listing (value (list_of (a ∷ b ∷ []))) (list_of []) r) where
  pub pair-never : {X : Type 0} (q : Refusal) → r.verdict ≡ Err q → X
  pair-never q e = never-refused q r.verdict tt w.answered e

  pub pair-are : kids r.list ≡ a ∷ b ∷ []
  pair-are = is-kids r.list (a ∷ b ∷ []) w.list

  pub pair-ready : (r.list.len < 16) × (r.list ≡ list_of (kids r.list))
  pair-ready = (omega (arith, ap (λ (x : NodeChildren). x.len) w.list ∙ list-len (a ∷ b ∷ [])), w.list ∙ ap list_of (sym pair-are))

-- a byte that is not the last one
pub not_last : (h : ℕ) → h < 256 → (h ≡ 255 → ⊥) → h < 255
not_last h l f = cut h 255 (λ k. k) (λ k. absurd (f (omega arith)))

module _ (m : List ℕ) (left : Kid) (v : ℕ) (other : TextInfo) where
  pub grown-far : 4294967295 < v → grown m left v other ≡ (refused 2, m)
  unfolding grown
  grown-far h = rw (lt-ltb 4294967295 v h)

  pub grown-high : v ≤ 4294967295 → height_of m ≡ 255 → grown m left v other ≡ (refused 2, m)
  unfolding grown
  grown-high h e = rw (le-ltb 4294967295 v h, eq-eqb (height_of m) 255 e)

  pub grown-it : v ≤ 4294967295 → (height_of m ≡ 255 → ⊥) → grown m left v other ≡ raised m (left ∷ kid v other ∷ []) (height_of m)
  unfolding grown
  grown-it h e = rw (le-ltb 4294967295 v h, ne_eqb (height_of m) 255 e)

  pub grow-done : v ≤ 4294967295 → (h : ℕ) → h ≡ height_of m → (h ≡ 255 → ⊥) → (ks : List Kid) → ks ≡ left ∷ kid v other ∷ [] → grown m left v other ≡ raised m ks h
  grow-done l h e f ks g = grown-it l (λ q. f (e ∙ q)) ∙ ap (λ (x : List Kid). raised m x (height_of m)) (sym g) ∙ ap (raised m ks) (sym e)

-- ── a child in the root's place ──

module _ (m : List ℕ) (s : ℕ) (child : Kid) (h : ℕ) where
  pub gave-by : (o : Outcome (List ℕ)) → given m s ≡ o → gave_way m s child h ≡ reading m o (λ l. top_put l child (h - 1))
  unfolding gave_way
  gave-by o e = ap (λ (x : Outcome (List ℕ)). reading m x (λ l. top_put l child (h - 1))) e

  module _ (v : Answer (Unit {0})) (l : List ℕ) (w : Wrote (given m s) m v l) where
    pub way-refused : (q : Refusal) → v ≡ Err q → Did outcome (gave_way m s child h) v l
    way-refused q e = go (given m s) refl w
      where
        go : (o : Outcome (List ℕ)) → given m s ≡ o → Wrote o m v l → Did outcome (gave_way m s child h) v l
        go (value t) z x = absurd (never (refusal_number q) tt (sym (ap outcome e) ∙ x.answered))
        go (refused n) z x = did-is (gave_way m s child h) v l (refused n) m (gave-by (refused n) z) x.answered x.memory

    pub way-done : v ≡ (Ok tt) → (u : Answer (Unit {0})) (after : List ℕ) → Did outcome (top_put l child (h - 1)) u after → Did outcome (gave_way m s child h) u after
    way-done e u after d = go (given m s) refl w
      where
        go : (o : Outcome (List ℕ)) → given m s ≡ o → Wrote o m v l → Did outcome (gave_way m s child h) u after
        go (refused n) z x = absurd (never n tt (sym x.answered ∙ ap outcome e))
        go (value t) z x =
            did-as (gave_way m s child h) u after (top_put l child (h - 1)) (gave-by (value t) z ∙ ap (λ (y : List ℕ). top_put y child (h - 1)) (sym x.memory)) d

-- ── a root below a child's least size ──

first_of : (ks : List Kid) → length ks ≡ 1 → get_or (list_of ks).arr 0 no_kid ≡ get_or ks 0 no_kid
unfolding list_of
first_of [] e = absurd (omega arith)
first_of (k ∷ ks) e = refl

module _ (m : List ℕ) (s : ℕ) where
  pub only-leaf : height_of m ≡ 0 → only m s ≡ false
  unfolding only
  only-leaf e = rw (eq-eqb (height_of m) 0 e)

  only_none : is_list m s ≡ false → only m s ≡ false
  unfolding only
  only_none e = ap (λ (b : Bool). not (eqb (height_of m) 0) && (b && eqb (len_of m s) 1)) e ∙ and_none (not (eqb (height_of m) 0))

  pub only-many : (len_of m s ≡ 1 → ⊥) → only m s ≡ false
  unfolding only
  only-many f =
      ap (λ (b : Bool). not (eqb (height_of m) 0) && (is_list m s && b)) (ne_eqb (len_of m s) 1 f)
      ∙ ap (λ (b : Bool). not (eqb (height_of m) 0) && b) (and_none (is_list m s))
      ∙ and_none (not (eqb (height_of m) 0))

  pub only_one : (height_of m ≡ 0 → ⊥) → is_list m s ≡ true → len_of m s ≡ 1 → only m s ≡ true
  unfolding only
  only_one f e g = rw (ne_eqb (height_of m) 0 f, e, eq-eqb (len_of m s) 1 g)

  module _ (i : TextInfo) where
    abbrev way : Step
    way = gave_way m s (get_or (children_of m s) 0 no_kid) (height_of m)

    abbrev stay : Step
    stay = top_put m (kid s i) (height_of m)

    pub shrunk-stays : only m s ≡ false → shrunk m s i ≡ stay
    unfolding shrunk
    shrunk-stays e = ap (λ (b : Bool). cond b way stay) e

    pub shrunk-gives : only m s ≡ true → shrunk m s i ≡ way
    unfolding shrunk
    shrunk-gives e = ap (λ (b : Bool). cond b way stay) e

    module _ (h : ℕ) (high : h ≡ height_of m) where
      pub shrink-leaf : h ≡ 0 → shrunk m s i ≡ top_put m (kid s i) h
      shrink-leaf e = shrunk-stays (only-leaf (sym high ∙ e)) ∙ ap (top_put m (kid s i)) (sym high)

      -- the list was read in slot p, which is this one
      module _ (p : ℕ) (at : p ≡ s) (r : Listed) (w : Listing (loaded m p) (list_of []) r) where
        read : is_list m s ≡ true → (r.list ≡ list_of (children_of m s)) × (r.list.len ≡ len_of m s)
        read e =
            let z = w.list ∙ ap (kept (list_of [])) (ap (loaded m) at ∙ loaded-is m s e) in
            (z, ap (λ (x : NodeChildren). x.len) z ∙ list-len (children_of m s) ∙ children-length m s e)

        none_read : is_list m s ≡ false → r.list.len ≡ 0
        none_read e = ap (λ (x : NodeChildren). x.len) (w.list ∙ ap (kept (list_of [])) (ap (loaded m) at ∙ loaded-not m s e)) ∙ list-len []

        pub shrink-many : (r.list.len ≡ 1 → ⊥) → shrunk m s i ≡ top_put m (kid s i) h
        shrink-many f = shrunk-stays (go (is_list m s) refl) ∙ ap (top_put m (kid s i)) (sym high)
          where
            go : (b : Bool) → is_list m s ≡ b → only m s ≡ false
            go true e = only-many (λ q. f ((read e).1 ∙ q))
            go false e = only_none e

        pub shrink-one : (h ≡ 0 → ⊥) → r.list.len ≡ 1 → (q : ℕ) → q ≡ s → shrunk m s i ≡ gave_way m q (get_or r.list.arr 0 no_kid) h
        shrink-one f g q at-too = go (is_list m s) refl
          where
            go : (b : Bool) → is_list m s ≡ b → shrunk m s i ≡ gave_way m q (get_or r.list.arr 0 no_kid) h
            go true e =
                let l = read e in
                shrunk-gives (only_one (λ y. f (high ∙ y)) e (sym l.1 ∙ g))
                ∙ ap (λ (k : Kid). gave_way m s k (height_of m))
                (sym (ap (λ (x : NodeChildren). get_or x.arr 0 no_kid) l.0 ∙ first_of (children_of m s) (children-length m s e ∙ sym l.1 ∙ g)))
                ∙ ap (λ (x : ℕ). gave_way m x (get_or r.list.arr 0 no_kid) (height_of m)) (sym at-too)
                ∙ ap (gave_way m q (get_or r.list.arr 0 no_kid)) (sym high)
            go false e = absurd (omega (arith, none_read e))

-- ── the call ──

module _ (m : List ℕ) (x : Edit) (k : Kid) (root : k ≡ root_of m) where
  abbrev made_by : Edit → Step
  made_by y = rooted_by m (edit (Ok y))

  pub root-same : (i : TextInfo) → x ≡ Edit·case.Same i → (h : ℕ) → h ≡ height_of m → made_by x ≡ top_put m (kid k.slot i) h
  unfolding rooted
  root-same i e h f = ap made_by e ∙ ap (λ (r : Kid). top_put m (kid r.slot i) (height_of m)) (sym root) ∙ ap (top_put m (kid k.slot i)) (sym f)

  pub root-small : (i : TextInfo) → x ≡ Edit·case.Small i → made_by x ≡ shrunk m k.slot i
  unfolding rooted
  root-small i e = ap made_by e ∙ ap (λ (r : Kid). shrunk m r.slot i) (sym root)

  pub root-split : (i : TextInfo) (v : ℕ) (j : TextInfo) → x ≡ Edit·case.Split i v j → made_by x ≡ grown m (kid k.slot i) v j
  unfolding rooted
  root-split i v j e = ap made_by e ∙ ap (λ (r : Kid). grown m (kid r.slot i) v j) (sym root)

  pub root-apart : x ≡ Edit·case.Apart → made_by x ≡ (value tt, m)
  unfolding rooted
  root-apart e = ap made_by e
