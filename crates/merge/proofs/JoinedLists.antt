-- Two lists joined: from what the calls on a list promise to what the join comes to, and that every child then fits.
use Rattle.std.specs.Prelude.{Ok, Err}
use mathlib.Core.Path.{◌≡◌, refl, sym, ap, subst, ◌∙◌}
use mathlib.Core.Bool.{Bool, true, false, ◌||◌, cond, true≢false}
use mathlib.Core.List.{List, [], ◌∷◌, ◌++◌}
use Prim.Native.Nat.{ℕ, ◌+◌, ◌-◌, ◌≤◌, ◌<◌}
use native.Mathlib.Omega.{arith}
use lib.Dec.{leb}
use lib.ListN.{length, take, drop, get_or, replicate, length-append, length-take, length-drop, get_or-append}
use lib.Seq.{get_or-take, get_or-drop}
use borrow.Author.Tests.{le-leb, lt-leb}
use Rattle.plain.specs.Outcome.{Outcome, Outcome.value, Outcome.refused, ruled, kept, mapped}
use Rattle.plain.proofs.Logic.{cut}
use Rattle.plain.proofs.Outcome.{one-applies, one-passed}
use Rattle.answer.specs.Answers.{refusal_number, Answer, outcome}
use Rattle.answer.specs.declared.Refusal.{Refusal}
use Rattle.answer.proofs.Opened.{never-refused}
use Rattle.leaf_bytes.proofs.Opened.{never}
use Rattle.text_info.specs.declared.TextInfo.{TextInfo}
use Rattle.pool.specs.declared.Kid.{Kid}
use Rattle.pool.specs.Slot.{len_of, region_of, entries, no_kid, Fits}
use Rattle.pool.specs.Calls.{outside, Wrote}
use Rattle.node_children.specs.declared.NodeChildren.{NodeChildren}
use Rattle.node_children.specs.declared.Listed.{Listed}
use Rattle.node_children.specs.declared.Two.{Two}
use Rattle.node_children.specs.Kids.{kids, list_of, Holds, Listing, Parting}
use Rattle.node_children.specs.Calls.{left_of, halves, pushed, distributed}
use Rattle.node_children.proofs.Lists.{is-kids, clean-length, holds}
use Rattle.node_children.proofs.Rules.{pushed-done, distributed-done}
use Rattle.nodes.specs.Node.{is_leaf, is_list, text_of, children_of, too_wide, narrowed, total_of, list_put, Fitting}
use Rattle.nodes.specs.Calls.{loaded, stored, Fitted, list_counted}
use Rattle.nodes.proofs.Heads.{one-refused, inside, not-outside, list-says, leaf-no-list, list-no-leaf}
use Rattle.nodes.proofs.Put.{list-size}
use Rattle.nodes.proofs.Rules.{few-counted, loaded-is, stored_is}
use Rattle.nodes.proofs.Accepted.{list-counted-only, store-accepted}
use Rattle.child_info.specs.Leaves.{TwoLeaves, Alike, Alike.leaves, Alike.lists}
use Rattle.merge.specs.Join.{joined_text, joined_kids, shared, joined, Joined, AllFit}
use Rattle.merge.proofs.Joins.{joined-done, joined-not, joined_same}

-- ── one child more, and a list that was loaded ──

pub clean : (c : NodeChildren) (ks : List Kid) → c ≡ list_of ks → c ≡ list_of (kids c)
clean c ks e = (holds c c.len ks refl e).clean

pub push-holds : (l : NodeChildren) (k : Kid) (r : Listed) → l.len < 16 → l ≡ list_of (kids l) → Listing (pushed l k) l r → Holds r.list (l.len + 1) (kids l ++ (k ∷ []))
unfolding list_of
push-holds l k r h e w =
    let ks = kids l ++ (k ∷ []) in
    let is : r.list ≡ list_of ks = w.list ∙ ap (kept l) (pushed-done l k h) in
    let n : r.list.len ≡ length ks = ap (λ (c : NodeChildren). c.len) is in
    holds r.list (l.len + 1) ks (omega (arith, length-append (kids l) (k ∷ []), clean-length l e)) is

module _ (m : List ℕ) (a : ℕ) (list : is_list m a ≡ true) where
  pub list_inside : outside m a ≡ false
  list_inside = not-outside m a (list-says m a list).0

  pub few-children : length (children_of m a) ≤ 16
  few-children = omega (arith, length-take (len_of m a) (entries (region_of m a)), (list-says m a list).2)

  pub load-list : (r : Listed) → Listing (loaded m a) (list_of []) r → (r.list ≡ list_of (children_of m a)) × (r.list.len ≤ 16)
  unfolding list_of
  load-list r w =
      let is : r.list ≡ list_of (children_of m a) = w.list ∙ ap (kept (list_of [])) (loaded-is m a list) in
      let n : r.list.len ≡ length (children_of m a) = ap (λ (c : NodeChildren). c.len) is in
      (is, omega (arith, few-children))

  pub load-never : {X : Type 0} (r : Listed) → Listing (loaded m a) (list_of []) r → (q : Refusal) → r.verdict ≡ Err q → X
  load-never {X} r w q e = never-refused q r.verdict tt (w.answered ∙ ap (mapped (λ x. tt)) (loaded-is m a list)) e

-- ── a list counted and stored ──

module _ (c : NodeChildren) (h : c.len ≤ 16) (i : Answer TextInfo) (p : outcome i ≡ list_counted c) where
  pub counted-wide : (q : Refusal) → i ≡ Err q → (too_wide (total_of (kids c)) ≡ true) × (refusal_number q ≡ 2)
  counted-wide q e = one-refused 2 (too_wide (total_of (kids c))) (narrowed (total_of (kids c))) (refusal_number q) (sym (ap outcome e) ∙ p ∙ few-counted c h)

  pub counted-fits : (x : TextInfo) → i ≡ Ok x → too_wide (total_of (kids c)) ≡ false
  counted-fits x e = (list-counted-only c x (sym p ∙ ap outcome e)).1

-- a list that may be stored is, and its entries fit
pub list-stored : (m : List ℕ) (a : ℕ) (c : NodeChildren) (v : Answer (Unit {0})) (after : List ℕ) → outside m a ≡ false → c.len ≤ 16
    → Wrote (stored m a c) m v after × Fitted v c.arr → (outcome v ≡ value tt) × (after ≡ list_put m a c) × Fitting c.arr
list-stored m a c (Ok tt) after o h w = (refl, (store-accepted m a c after w.0).2, w.1)
list-stored m a c (Err q) after o h w =
    absurd (never (refusal_number q) tt (w.0.answered ∙ ap (mapped (λ t. tt)) (stored_is m a c (inside m a o) h)))

-- ── what a call that writes lists comes to ──

module _ {X : Type 0} (wide : Bool) (v : Bool × List ℕ) (m : List ℕ) where
  pub not-put : (q : Refusal) → wide ≡ true → refusal_number q ≡ 2
      → Joined (ruled ((2, wide) ∷ []) v) m (Err q) m × ((b : Bool) → outcome (Err q) ≡ value b → X)
  not-put q e f =
      (joined-not (ruled ((2, wide) ∷ []) v) m (Err q) m 2 (one-applies 2 wide v e) (ap (λ (n : ℕ). refused n) f) refl, λ b g. absurd (never (refusal_number q) b g))

  pub is-put : (r : Answer Bool) (w : Answer (Unit {0})) (after : List ℕ) → outcome r ≡ mapped (λ t. v.0) (outcome w) → outcome w ≡ value tt → wide ≡ false → after ≡ v.1 → X
      → Joined (ruled ((2, wide) ∷ []) v) m r after × ((b : Bool) → outcome r ≡ value b → X)
  is-put r w after t d e f x = (joined-done (ruled ((2, wide) ∷ []) v) m r after v.0 v.1 (one-passed 2 wide v e) (t ∙ ap (mapped (λ y. v.0)) d) f, λ b g. x)

-- two lists stored one after the other
pub lists-stored : (m : List ℕ) (a b : ℕ) (c d : NodeChildren) (v w : Answer (Unit {0})) (l after : List ℕ) → outside m a ≡ false → outside m b ≡ false → c.len ≤ 16 → d.len ≤ 16
    → Wrote (stored m a c) m v l × Fitted v c.arr → Wrote (stored l b d) l w after × Fitted w d.arr
    → Wrote (value (list_put (list_put m a c) b d)) m w after × (Fitting c.arr × Fitting d.arr)
lists-stored m a b c d v w l after o p h k f g =
    let x = list-stored m a c v l o h f in
    let long : length l ≡ length m = ap length x.1 ∙ list-size m a c (inside m a o) h x.2.sixteen in
    let y = list-stored l b d w after (not-outside l b (omega (arith, inside m b p))) k g in
    (record { answered = y.0; memory = y.1 ∙ ap (λ (z : List ℕ). list_put z b d) x.1 }, (x.2, y.2))

-- ── every child fits ──

module _ (ks : List Kid) where
  list-fits : (c : NodeChildren) → c ≡ list_of ks → length ks ≤ 16 → Fitting c.arr → AllFit ks
  unfolding list_of
  list-fits c e h f i k =
      let z = ap (λ (d : NodeChildren). get_or d.arr i no_kid) e ∙ get_or-append ks (replicate (16 - length ks) no_kid) no_kid i k in
      subst (λ (x : Kid). Fits x) z (f.each i (omega arith))

  parts-fit : (p : ℕ) → AllFit (take p ks) → AllFit (drop p ks) → AllFit ks
  parts-fit p f g i k =
      cut i p (λ h. subst (λ (x : Kid). Fits x) (get_or-take p ks i no_kid h) (f i (omega (arith, length-take p ks))))
      (λ h.
      let e : p + (i - p) ≡ i = omega arith in
      subst (λ (x : Kid). Fits x) (get_or-drop p ks (i - p) no_kid ∙ ap (λ (j : ℕ). get_or ks j no_kid) e) (g (i - p) (omega (arith, length-drop p ks))))

-- ── two lists ──

module _ (m : List ℕ) (a b : ℕ) where
  abbrev one_put : NodeChildren → Outcome (Bool × List ℕ)
  one_put c = ruled ((2, too_wide (total_of (kids c))) ∷ []) (true, list_put m a c)

  abbrev two_put : NodeChildren → NodeChildren → Outcome (Bool × List ℕ)
  two_put c d = ruled ((2, too_wide (total_of (kids c)) || too_wide (total_of (kids d))) ∷ []) (false, list_put (list_put m a c) b d)

  one-put : (c : NodeChildren) (ks : List Kid) → c ≡ list_of ks → ruled ((2, too_wide (total_of ks)) ∷ []) (true, list_put m a (list_of ks)) ≡ one_put c
  one-put c ks e = rw (is-kids c ks e, e)

  two-put : (c d : NodeChildren) (ls rs : List Kid) → c ≡ list_of ls → d ≡ list_of rs → shared m a b ls rs ≡ two_put c d
  two-put c d ls rs e f = rw (is-kids c ls e, is-kids d rs f, e, f)

  module _ (ks : List Kid) (r : Answer Bool) (after : List ℕ) where
    abbrev pub Ends : Type 0
    Ends = Joined (joined_kids m a b ks) m r after × ((q : Bool) → outcome r ≡ value q → AllFit ks)

    abbrev at : ℕ
    at = left_of (length ks)

    kids-by : (t : Bool) → leb (length ks) 16 ≡ t
        → joined_kids m a b ks ≡ cond t (ruled ((2, too_wide (total_of ks)) ∷ []) (true, list_put m a (list_of ks))) (shared m a b (take at ks) (drop at ks))
    kids-by t e = ap (λ (x : Bool). cond x (ruled ((2, too_wide (total_of ks)) ∷ []) (true, list_put m a (list_of ks))) (shared m a b (take at ks) (drop at ks))) e

    pub kids-merged : (c : NodeChildren) → c ≡ list_of ks → length ks ≤ 16 → Joined (one_put c) m r after × ((q : Bool) → outcome r ≡ value q → Fitting c.arr) → Ends
    kids-merged c e h j =
        (joined_same (joined_kids m a b ks) m r after (one_put c) (kids-by true (le-leb (length ks) 16 h) ∙ one-put c ks e) j.0, λ q t. list-fits ks c e h (j.1 q t))

    pub kids-shared : (c d : NodeChildren) → c ≡ list_of (take at ks) → d ≡ list_of (drop at ks) → 16 < length ks → length ks ≤ 32
        → Joined (two_put c d) m r after × ((q : Bool) → outcome r ≡ value q → Fitting c.arr × Fitting d.arr) → Ends
    kids-shared c d e f g h j =
        let left = list-fits (take at ks) c e (omega (arith, length-take at ks)) in
        let right = list-fits (drop at ks) d f (omega (arith, length-drop at ks)) in
        (joined_same (joined_kids m a b ks) m r after (two_put c d) (kids-by false (lt-leb (length ks) 16 g) ∙ two-put c d (take at ks) (drop at ks) e f) j.0, λ q t. parts-fit ks at (left (j.1 q t).0) (right (j.1 q t).1))

-- the lists that `append` and `distribute_with` answer
module _ (ls rs : List Kid) (c d : NodeChildren) (e : c ≡ list_of ls) (f : d ≡ list_of rs) where
  abbrev all : List Kid
  all = ls ++ rs

  sizes : (c.len ≡ length ls) × (d.len ≡ length rs)
  unfolding list_of
  sizes = (ap (λ (x : NodeChildren). x.len) e, ap (λ (x : NodeChildren). x.len) f)

  pub all-length : length all ≡ c.len + d.len
  all-length = omega (arith, length-append ls rs, sizes.0, sizes.1)

  both : kids c ++ kids d ≡ all
  both = ap (λ (x : List Kid). x ++ kids d) (is-kids c ls e) ∙ ap (λ (x : List Kid). ls ++ x) (is-kids d rs f)

  pub whole-list : (r : NodeChildren) → r ≡ list_of (kids c ++ kids d) → r ≡ list_of all
  whole-list r g = g ∙ ap list_of both

  pub whole-small : (r : NodeChildren) → r ≡ list_of (kids c ++ kids d) → c.len + d.len ≤ 16 → r.len ≤ 16
  unfolding list_of
  whole-small r g h =
      let n : r.len ≡ length all = ap (λ (x : NodeChildren). x.len) (whole-list r g) in
      omega (arith, all-length)

  module _ (g : c.len ≤ 16) (h : d.len ≤ 16) (r : Two) (w : Parting (distributed c d) c d r) where
    pub shares : distributed c d ≡ value (halves all)
    shares = distributed-done c d g h ∙ ap (λ (x : List Kid). value (halves x)) both

    pub left-share : r.left ≡ list_of (take (left_of (length all)) all)
    left-share = w.left-list ∙ ap (λ (o : Outcome (NodeChildren × NodeChildren)). kept c (mapped (λ t. t.0) o)) shares

    pub right-share : r.right ≡ list_of (drop (left_of (length all)) all)
    right-share = w.right-list ∙ ap (λ (o : Outcome (NodeChildren × NodeChildren)). kept d (mapped (λ t. t.1) o)) shares

    pub shares-small : (r.left.len ≤ 16) × (r.right.len ≤ 16)
    unfolding list_of
    shares-small =
        let p = left_of (length all) in
        let x : r.left.len ≡ length (take p all) = ap (λ (y : NodeChildren). y.len) left-share in
        let y : r.right.len ≡ length (drop p all) = ap (λ (z : NodeChildren). z.len) right-share in
        (omega (arith, length-take p all, all-length), omega (arith, length-drop p all, all-length))

-- ── two nodes of one kind ──

module _ (m : List ℕ) (a b : ℕ) where
  pub both-leaves : Alike m a b → is_leaf m a ≡ true → TwoLeaves m a b
  both-leaves (leaves t) e = t
  both-leaves (lists x y z) e = absurd (true≢false (sym e ∙ list-no-leaf m a x))

  pub both-lists : Alike m a b → is_list m a ≡ true → is_list m b ≡ true
  both-lists (leaves t) e = absurd (true≢false (sym e ∙ leaf-no-list m a t.left.leaf))
  both-lists (lists x y z) e = y

  pub some-node : Alike m a b → is_leaf m a ≡ false → is_list m a ≡ false → ⊥
  some-node (leaves t) e f = true≢false (sym t.left.leaf ∙ e)
  some-node (lists x y z) e f = true≢false (sym x ∙ f)

  abbrev kin : List Kid
  kin = children_of m a ++ children_of m b

  abbrev Done : Answer Bool → List ℕ → Type 0
  Done r after = Joined (joined m a b) m r after × ((q : Bool) → outcome r ≡ value q → is_list m a ≡ true → AllFit kin)

  joined_by : (t : Bool) → is_leaf m a ≡ t → joined m a b ≡ cond t (joined_text m a b (text_of m a ++ text_of m b)) (joined_kids m a b kin)
  unfolding joined
  joined_by t e = ap (λ (x : Bool). cond x (joined_text m a b (text_of m a ++ text_of m b)) (joined_kids m a b kin)) e

  pub leaves-joined : (r : Answer Bool) (after : List ℕ) → is_leaf m a ≡ true → Joined (joined_text m a b (text_of m a ++ text_of m b)) m r after → Done r after
  leaves-joined r after e j = (joined_same (joined m a b) m r after _ (joined_by true e) j, λ q f g. absurd (true≢false (sym g ∙ leaf-no-list m a e)))

  pub lists-joined : (r : Answer Bool) (after : List ℕ) → is_list m a ≡ true → Ends m a b kin r after → Done r after
  lists-joined r after e j = (joined_same (joined m a b) m r after _ (joined_by false (list-no-leaf m a e)) j.0, λ q f g. j.1 q f)
