-- The law of two lists joined: one list with the children of both, or two with half of them each. No call needs it; the law of the step does.
use mathlib.Core.Path.{◌≡◌, refl, sym, ap, subst, ◌∙◌}
use mathlib.Core.Bool.{Bool, true, false, ◌&&◌, ◌||◌, cond}
use mathlib.Core.List.{List, [], ◌∷◌, ◌++◌, map}
use Prim.Native.Nat.{ℕ, suc, ◌+◌, ◌≤◌, ◌<◌}
use native.Mathlib.Omega.{arith}
use lib.ListN.{length, take, drop, length-append, length-drop, take-append-drop}
use lib.Seq.{length-take-le}
use borrow.Author.Tests.{le-leb, lt-leb}
use Rattle.plain.specs.Count.{cr_last, lf_first}
use Rattle.plain.specs.Outcome.{ruled}
use Rattle.plain.proofs.Logic.{or-none}
use Rattle.plain.proofs.Outcome.{one-passed}
use Rattle.text_info.specs.declared.TextInfo.{TextInfo}
use Rattle.pool.specs.declared.Kid.{Kid}
use Rattle.pool.specs.Slot.{len_of}
use Rattle.node_children.specs.Kids.{list_of}
use Rattle.node_children.specs.Calls.{left_of}
use Rattle.nodes.specs.Node.{is_list, text_of, children_of, too_wide, narrowed, total_of, counts_of, list_put}
use Rattle.nodes.proofs.Heads.{list-says, list-no-leaf}
use Rattle.nodes.proofs.Put.{same}
use Rattle.text_info.specs.Info.{info_of}
use Rattle.plain.specs.Utf8.{decode}
use Rattle.tree.specs.Tree.{every, bytes_below, hit, uses, seamless, least_at}
use Rattle.tree.specs.Kids.{below, fine}
use Rattle.tree.proofs.Lists.{join-append, sum-append, every-none, every-cons, every_append, every-left, every-right}
use Rattle.tree.proofs.Seams.{seam-left, seam-right}
use Rattle.tree.proofs.Sound.{ListSound, list-sound, list-bytes, list-uses, children-length}
use Rattle.tree.proofs.Frame.{KeptAll}
use Rattle.merge.specs.Join.{joined_text, shared, joined_kids, joined}
use Rattle.edit_steps.specs.Became.{uses_all, bytes_all, free}
use Rattle.edit_steps.specs.Grown.{Grown, kid}
use Rattle.edit_steps.proofs.Rules.{same_length, beside}
use Rattle.list_step.proofs.Totals.{filled}
use Rattle.list_step.proofs.Family.{Family, counts_of as counts_in, narrow-enough, put-laid, is-became}
use Rattle.list_step.proofs.Laws.{fine-list}
use Rattle.list_step.proofs.Laid.{Laid}
use Rattle.mend_step.proofs.Pairs.{Pair, Merges, Shares, slots_apart, seam-one, seam-append, seam-between}
use Rattle.mend_step.proofs.Beside.{grown-as, both-grown}

-- the counts of a list are its children's
list_counts : (l : List ℕ) (s : ℕ) → is_list l s ≡ true → counts_of l s ≡ narrowed (total_of (children_of l s))
unfolding counts_of
list_counts l s e = ap (λ (b : Bool). cond b (info_of (decode (text_of l s))) (narrowed (total_of (children_of l s)))) (list-no-leaf l s e)

-- children stored in one list, which has enough of them
four : (h : ℕ) → least_at (suc h) ≡ 4
unfolding least_at
four h = refl

list-grown : (m : List ℕ) (n h s : ℕ) (ks : List Kid) → Family m n h s ks → 4 ≤ length ks
    → Grown m (list_put m s (list_of ks)) n 0 (λ z. hit s z + uses_all m h ks z) (suc h) (kid s (counts_in ks) ∷ []) (bytes_all m h ks)
list-grown m n h s ks f e =
    let l = list_put m s (list_of ks) in
    record {
      became = is-became m n h s ks f;
      each = every-cons (fine l (suc h)) (kid s (counts_in ks)) [] (fine-list m n h s ks f e) (every-none (fine l (suc h)));
      seams = seam-one (below l (suc h)) (kid s (counts_in ks));
    }

module _ (m : List ℕ) (n h a b : ℕ) (p : Pair m n (suc h) a b) where
  x : ListSound m 0 h a
  x = list-sound m 0 h a p.left

  y : ListSound m 0 h b
  y = list-sound m 0 h b p.right

  abbrev left : List Kid
  left = children_of m a

  abbrev right : List Kid
  right = children_of m b

  abbrev pub ks : List Kid
  ks = left ++ right

  count : length ks ≡ len_of m a + len_of m b
  count = length-append left right ∙ omega (arith, children-length m a x.list, children-length m b y.list)

  whole : bytes_all m h ks ≡ bytes_below m (suc h) a ++ bytes_below m (suc h) b
  whole =
      join-append (below m h) left right
      ∙ ap (λ (t : List ℕ). t ++ bytes_all m h right) (sym (list-bytes m a h))
      ∙ ap (λ (t : List ℕ). bytes_below m (suc h) a ++ t) (sym (list-bytes m b h))

  used : (z : ℕ) → hit a z + hit b z + uses_all m h ks z ≡ uses m (suc h) a z + uses m (suc h) b z
  used z = omega (arith, list-uses m a h z, list-uses m b h z, sum-append (λ (k : Kid). uses m h k.slot z) left right)

  all-fine : every (fine m h) ks ≡ true
  all-fine = every_append (fine m h) left right x.each y.each

  all-seams : seamless (map (below m h) ks) ≡ true
  all-seams =
      seam-append (below m h) (fine m h) (filled m h) left right x.each y.each x.seams y.seams
      (ap (λ (t : List ℕ). cr_last t && lf_first (bytes_all m h right)) (sym (list-bytes m a h))
      ∙ ap (λ (t : List ℕ). cr_last (bytes_below m (suc h) a) && lf_first t) (sym (list-bytes m b h))
      ∙ p.seam)

  fits : length (bytes_all m h ks) < 4294967296
  fits = omega (arith, p.short, ap length whole, length-append (bytes_below m (suc h) a) (bytes_below m (suc h) b))

  joined-kids : joined m a b ≡ joined_kids m a b ks
  unfolding joined
  joined-kids = ap (λ (t : Bool). cond t (joined_text m a b (text_of m a ++ text_of m b)) (joined_kids m a b ks)) (list-no-leaf m a x.list)

  -- ── merged ──

  module _ (few : len_of m a + len_of m b ≤ 16) where
    one-family : Family m n h a ks
    one-family =
        record {
          few = p.few;
          slotted = p.slotted;
          there = p.left_there;
          most = omega (arith, count);
          each = all-fine;
          seams = all-seams;
          once = λ z. omega (arith, p.once z, used z);
          small = fits;
        }

    abbrev merged : List ℕ
    merged = list_put m a (list_of ks)

    laid : Laid m merged a ks
    laid = put-laid m n h a ks one-family

    counts : counts_of merged a ≡ counts_in ks
    counts = list_counts merged a laid.list ∙ ap (λ (l : List Kid). narrowed (total_of l)) laid.children

    -- THEOREM: the children of both have room in one list
    pub lists-merge : Merges m n (suc h) a b merged
    lists-merge =
        record {
          u = λ z. hit a z + uses_all m h ks z;
          parts = λ z. omega (arith, used z);
          accepted =
              joined-kids
              ∙ ap (λ (t : Bool). cond t (ruled ((2, too_wide (total_of ks)) ∷ []) (true, merged)) (shared m a b (take (left_of (length ks)) ks) (drop (left_of (length ks)) ks))) (le-leb (length ks) 16 (omega (arith, count)))
              ∙ one-passed 2 (too_wide (total_of ks)) (true, merged) (narrow-enough m n h a ks one-family);
          grown =
              subst (λ (i : TextInfo). Grown m merged n 0 (λ z. hit a z + uses_all m h ks z) (suc h) (kid a i ∷ []) (bytes_below m (suc h) a ++ bytes_below m (suc h) b)) (sym counts)
              (subst (λ (t : List ℕ). Grown m merged n 0 (λ z. hit a z + uses_all m h ks z) (suc h) (kid a (counts_in ks) ∷ []) t) whole (list-grown m n h a ks one-family (omega (arith, count, p.enough, four h))));
        }

  -- ── distributed ──

  module _ (many : 17 ≤ len_of m a + len_of m b) where
    abbrev half : ℕ
    half = left_of (length ks)

    abbrev ls : List Kid
    ls = take half ks

    abbrev rs : List Kid
    rs = drop half ks

    again : ls ++ rs ≡ ks
    again = take-append-drop half ks

    total : length ks ≤ 32
    total = omega (arith, count, (list-says m a x.list).2, (list-says m b y.list).2)

    left-length : (4 ≤ length ls) × (length ls ≤ 16)
    left-length = (omega (arith, length-take-le half ks (omega arith), count, total), omega (arith, length-take-le half ks (omega arith), total))

    right-length : (4 ≤ length rs) × (length rs ≤ 16)
    right-length = (omega (arith, length-drop half ks, count), omega (arith, length-drop half ks, total))

    sums : (z : ℕ) → uses_all m h ks z ≡ uses_all m h ls z + uses_all m h rs z
    sums z = ap (λ (l : List Kid). uses_all m h l z) (sym again) ∙ sum-append (λ (k : Kid). uses m h k.slot z) ls rs

    texts : bytes_all m h ks ≡ bytes_all m h ls ++ bytes_all m h rs
    texts = ap (bytes_all m h) (sym again) ∙ join-append (below m h) ls rs

    sizes : length (bytes_all m h ls) + length (bytes_all m h rs) < 4294967296
    sizes = omega (arith, fits, ap length texts, length-append (bytes_all m h ls) (bytes_all m h rs))

    fine-both : every (fine m h) (ls ++ rs) ≡ true
    fine-both = ap (every (fine m h)) again ∙ all-fine

    seams-both : seamless (map (below m h) (ls ++ rs)) ≡ true
    seams-both = ap (λ (l : List Kid). seamless (map (below m h) l)) again ∙ all-seams

    apart : (z : ℕ) → hit a z + hit b z + (uses_all m h ls z + uses_all m h rs z) + free m n z ≤ 1
    apart z = omega (arith, p.once z, used z, sums z)

    left-family : Family m n h a ls
    left-family =
        record {
          few = p.few;
          slotted = p.slotted;
          there = p.left_there;
          most = left-length.1;
          each = every-left (fine m h) ls rs fine-both;
          seams = seam-left (below m h) (fine m h) (filled m h) ls rs seams-both;
          once = λ z. omega (arith, apart z);
          small = omega (arith, sizes);
        }

    abbrev first : List ℕ
    first = list_put m a (list_of ls)

    abbrev kl : Kid
    kl = kid a (counts_in ls)

    abbrev ul : ℕ → ℕ
    ul z = hit a z + uses_all m h ls z

    left_grown : Grown m first n 0 ul (suc h) (kl ∷ []) (bytes_all m h ls)
    left_grown = list-grown m n h a ls left-family left-length.0

    abbrev long-left : length first ≡ length m
    long-left = same_length m first n 0 ul (suc h) (kl ∷ []) (bytes_all m h ls) left_grown.became p.slotted

    beside-right : KeptAll m first long-left h rs
    beside-right = beside m first n 0 ul (suc h) (kl ∷ []) (bytes_all m h ls) left_grown.became p.slotted h rs (λ z. omega (arith, apart z))

    right-family : Family first n h b rs
    right-family =
        record {
          few = p.few;
          slotted = left_grown.became.slotted;
          there = p.right_there;
          most = right-length.1;
          each = beside-right.fine-too ∙ every-right (fine m h) ls rs fine-both;
          seams = ap seamless beside-right.texts ∙ seam-right (below m h) (fine m h) (filled m h) ls rs seams-both;
          once = λ z. omega (arith, apart z, beside-right.used z, left_grown.became.conserve z);
          small = omega (arith, sizes, ap length beside-right.bytes);
        }

    abbrev last : List ℕ
    last = list_put first b (list_of rs)

    abbrev kr : Kid
    kr = kid b (counts_in rs)

    abbrev ur : ℕ → ℕ
    ur z = hit b z + uses_all first h rs z

    right-grown : Grown first last n 0 ur (suc h) (kr ∷ []) (bytes_all first h rs)
    right-grown = list-grown first n h b rs right-family right-length.0

    two-grown : Grown m last n 0 (λ z. ul z + ur z) (suc h) (kl ∷ kr ∷ []) (bytes_all m h ls ++ bytes_all first h rs)
    two-grown =
        both-grown m first last n (suc h) ul ur kl kr (bytes_all m h ls) (bytes_all first h rs) p.slotted left_grown right-grown (λ z. omega (arith, apart z, beside-right.used z))
        (ap (λ (t : List ℕ). cr_last (bytes_all m h ls) && lf_first t) beside-right.bytes
        ∙ seam-between (below m h) (fine m h) (filled m h) ls rs (every-left (fine m h) ls rs fine-both) (every-right (fine m h) ls rs fine-both) seams-both)

    laid-left : Laid m first a ls
    laid-left = put-laid m n h a ls left-family

    laid-right : Laid first last b rs
    laid-right = put-laid first n h b rs right-family

    left-counts : counts_of last a ≡ counts_in ls
    left-counts =
        (same last first a (laid-right.others a (slots_apart m n (suc h) a b p)) laid-right.long).counts
        ∙ list_counts first a laid-left.list
        ∙ ap (λ (l : List Kid). narrowed (total_of l)) laid-left.children

    right-counts : counts_of last b ≡ counts_in rs
    right-counts = list_counts last b laid-right.list ∙ ap (λ (l : List Kid). narrowed (total_of l)) laid-right.children

    abbrev Two : TextInfo → TextInfo → Type 0
    Two i j = Grown m last n 0 (λ z. uses m (suc h) a z + uses m (suc h) b z) (suc h) (kid a i ∷ kid b j ∷ []) (bytes_below m (suc h) a ++ bytes_below m (suc h) b)

    shared-grown : Two (counts_in ls) (counts_in rs)
    shared-grown =
        grown-as m last n 0 (λ z. ul z + ur z) (λ z. uses m (suc h) a z + uses m (suc h) b z) (suc h) (kl ∷ kr ∷ []) (bytes_all m h ls ++ bytes_all first h rs)
        (bytes_below m (suc h) a ++ bytes_below m (suc h) b) two-grown (λ z. omega (arith, used z, sums z, beside-right.used z))
        (ap (λ (t : List ℕ). bytes_all m h ls ++ t) beside-right.bytes ∙ sym texts ∙ whole)

    -- THEOREM: else each has half of them
    pub lists-share : Shares m n (suc h) a b last
    lists-share =
        record {
          accepted =
              joined-kids
              ∙ ap (λ (t : Bool). cond t (ruled ((2, too_wide (total_of ks)) ∷ []) (true, list_put m a (list_of ks))) (shared m a b ls rs)) (lt-leb (length ks) 16 (omega (arith, count)))
              ∙ one-passed 2 (too_wide (total_of ls) || too_wide (total_of rs)) (false, last)
              (or-none (too_wide (total_of ls)) (too_wide (total_of rs)) (narrow-enough m n h a ls left-family) (narrow-enough first n h b rs right-family));
          grown = subst (λ (i : TextInfo). Two i (counts_of last b)) (sym left-counts) (subst (λ (j : TextInfo). Two (counts_in ls) j) (sym right-counts) shared-grown);
        }
