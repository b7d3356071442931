-- A list of which an edit made something of one child: what is known of it, what the step should make of it, and what the list and its children
-- are before that step.
use mathlib.Core.Path.{◌≡◌, refl, sym, ap, ◌∙◌}
use mathlib.Core.Bool.{true, false, ◌&&◌}
use mathlib.Core.List.{List, ◌∷◌, ◌++◌, map}
use Prim.Native.Nat.{ℕ, suc, ◌+◌, ◌≤◌, ◌<◌}
use native.Mathlib.Omega.{arith}
use lib.ListN.{length, length-append}
use Rattle.plain.specs.Count.{cr_last, lf_first}
use Rattle.plain.specs.Outcome.{Outcome, Outcome.value}
use Rattle.pool.specs.declared.Kid.{Kid}
use Rattle.pool.specs.Slot.{len_of}
use Rattle.nodes.specs.Node.{is_list, children_of}
use Rattle.nodes.proofs.Put.{Same, same as node-same}
use Rattle.tree.specs.Tree.{every, hit, uses, seamless}
use Rattle.tree.specs.Kids.{below, fine}
use Rattle.tree.proofs.Sound.{children-length}
use Rattle.tree.proofs.Frame.{hit-self}
use Rattle.edit_steps.specs.Made.{Made}
use Rattle.edit_steps.specs.Acts.{settled}
use Rattle.edit_steps.specs.Became.{uses_all, bytes_all, free, spare, Slotted, Became}
use Rattle.edit_steps.specs.Grown.{Grown, MadeIs}
use Rattle.edit_steps.proofs.Rules.{same_length}
use Rattle.list_step.proofs.Laid.{made_more}
use Rattle.list_step.proofs.Puts.{Ready, MakesOf}
use Rattle.mend_step.proofs.Among.{Amid, became-all, fine-all, seams-all, made_then, made_as}
use Rattle.rise.specs.Rise.{risen}

-- the list in slot p of m has the children pre, k and post, of height g; an edit of k left the memory a, with the text t below it
pub record Rising (m a : List ℕ) (n g d p : ℕ) (pre : List Kid) (k : Kid) (post : List Kid) (t : List ℕ) (made : Made) : Type 0 where
  pub few : n < 4294967296
  pub slotted : Slotted m n
  pub there : p < n
  pub list : is_list m p ≡ true
  pub children : children_of m p ≡ pre ++ (k ∷ post)
  pub more : 1 ≤ length pre + length post
  pub before : every (fine m g) pre ≡ true
  pub behind : every (fine m g) post ≡ true
  pub seams-before : seamless (map (below m g) pre) ≡ true
  pub seams-behind : seamless (map (below m g) post) ≡ true
  pub seam-left : (cr_last (bytes_all m g pre) && lf_first (t ++ bytes_all m g post)) ≡ false
  pub seam-right : (cr_last t && lf_first (bytes_all m g post)) ≡ false
  pub once : (x : ℕ) → hit p x + (uses_all m g pre x + (uses m g k.slot x + uses_all m g post x)) + free m n x ≤ 1
  pub short : length (bytes_all m g pre ++ (t ++ bytes_all m g post)) < 4294967296
  pub edited : MadeIs m a n d (uses m g k.slot) g k.slot t made
  pub room : d + 1 ≤ spare m n

-- the step is accepted, and made this of the list
pub record Rises (m a : List ℕ) (n g d p i : ℕ) (pre : List Kid) (k : Kid) (post : List Kid) (t : List ℕ) (made : Made) : Type 0 where
  pub what : Made
  pub later : List ℕ
  pub is : risen a p i made ≡ (value what, later)
  pub makes : MadeIs m later n (d + 1) (λ x. hit p x + (uses_all m g pre x + (uses m g k.slot x + uses_all m g post x))) (suc g) p (bytes_all m g pre ++ (t ++ bytes_all m g post)) what

-- ── the list when its child became others ──

module _ (m a : List ℕ) (n g d p : ℕ) (pre : List Kid) (k : Kid) (post : List Kid) (t : List ℕ) (made : Made) (r : Rising m a n g d p pre k post t made)
    (outs : List Kid) (b : Became m a n d (uses m g k.slot) g outs t) where
  abbrev u : ℕ → ℕ
  u = uses m g k.slot

  abbrev ks : List Kid
  ks = pre ++ (outs ++ post)

  abbrev used : ℕ → ℕ
  used x = hit p x + (uses_all m g pre x + (u x + uses_all m g post x))

  abbrev text : List ℕ
  text = bytes_all m g pre ++ (t ++ bytes_all m g post)

  amid : Amid m n g u pre post t
  amid =
      record {
        slotted = r.slotted;
        apart = λ z. omega (arith, r.once z);
        before = r.before;
        behind = r.behind;
        seams-before = r.seams-before;
        seams-behind = r.seams-behind;
        seam-left = r.seam-left;
        seam-right = r.seam-right;
      }

  all-became : Became m a n d (λ z. uses_all m g pre z + (u z + uses_all m g post z)) g ks text
  all-became = became-all m a n d g u pre post outs t amid b

  -- the list itself is as it was
  stays : Same a m p
  stays = node-same a m p (b.only p (omega (arith, r.once p, hit-self p))) (same_length m a n d u g outs t b r.slotted)

  pub list-stays : is_list a p ≡ true
  list-stays = stays.list ∙ r.list

  pub children-stay : children_of a p ≡ pre ++ (k ∷ post)
  children-stay = stays.children ∙ r.children

  pub count : len_of a p ≡ length pre + (1 + length post)
  count = sym (children-length a p list-stays) ∙ ap length children-stay ∙ length-append pre (k ∷ post) ∙ omega arith

  pub once-too : (x : ℕ) → hit p x + uses_all a g ks x + free a n x ≤ 1
  once-too x = omega (arith, r.once x, all-became.conserve x)

  pub short-too : length (bytes_all a g ks) < 4294967296
  short-too = omega (arith, r.short, ap length all-became.reads)

  pub ready : Grown m a n d u g outs t → Ready a n g p ks
  ready w =
      record {
        few = r.few;
        slotted = b.slotted;
        list = list-stays;
        there = r.there;
        each = fine-all m a n d g u pre post outs t amid w;
        seams = seams-all m a n d g u pre post outs t amid w;
        once = once-too;
        small = short-too;
      }

  -- what a step makes of these children it makes of those before the edit
  pub on : (later : List ℕ) (what : Made) (e : ℕ) → e ≤ 1 → MadeIs a later n e (λ x. hit p x + uses_all a g ks x) (suc g) p (bytes_all a g ks) what → MadeIs m later n (d + 1) used (suc g) p text what
  on later what e h w =
      made_more m later n (d + e) (d + 1) used (suc g) p text what
      (made_as m later n (d + e) used used (suc g) p (bytes_all a g ks) text what
      (made_then m a later n d e (λ z. uses_all m g pre z + (u z + uses_all m g post z)) (hit p) g ks text (λ x. hit p x + uses_all a g ks x) (suc g) p (bytes_all a g ks) all-became (λ z. refl) what w)
      (λ z. refl) all-became.reads) (omega arith)

  -- a step that was accepted
  pub made-rises : (i : ℕ) (o : Outcome (Made × List ℕ)) → risen a p i made ≡ settled a o → MakesOf o a n g p ks → Rises m a n g d p i pre k post t made
  made-rises i o e w = record { what = w.made; later = w.later; is = e ∙ ap (settled a) w.accepted; makes = on w.later w.made 1 (omega arith) w.is }
