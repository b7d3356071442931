-- The steps of a removal in a memory that holds a note: what each asks is there, and what they leave together.
use mathlib.Core.Path.{◌≡◌, refl, sym, ap, subst, ◌∙◌}
use mathlib.Core.Bool.{true, false}
use mathlib.Core.List.{List, [], ◌∷◌}
use Prim.Native.Nat.{ℕ, ◌+◌, ◌-◌, ◌≤◌, ◌<◌}
use native.Mathlib.Omega.{arith}
use lib.ListN.{length, take, drop}
use Rattle.plain.specs.Utf8.{valid_utf8, decode}
use Rattle.plain.specs.Count.{cr_last, lf_first}
use Rattle.plain.specs.Edit.{put_in, cut_out}
use Rattle.plain.proofs.Logic.{cut}
use Rattle.plain_note.specs.Note.{need}
use Rattle.edit_steps.specs.Held.{Holds}
use Rattle.edit_steps.proofs.Keeps.{kept-n, kept_same, kept-twice}
use Rattle.edit_promise.specs.Turned.{text_in, Turned, Loose, Puts, Cuts, Removes}
use Rattle.edit_promise.proofs.Guard.{cut-none, cut-length, cut-more, cut-loose, loose-end, guarded, guard-length, guard-front, guard-loose, cr-place, guard-stays, guard-goes, guard-last, guard-alone}

-- ── steps behind each other ──

pub turned_same : (m cs : List ℕ) → Holds m → text_in m ≡ cs → Turned m cs m
turned_same m cs w e = record { holds = w; text = e; kept = kept_same m }

turned_then : (m x a cs ds later : List ℕ) → Turned m x a → Turned a cs later → cs ≡ ds → Turned m ds later
turned_then m x a cs ds later t u e = record { holds = u.holds; text = u.text ∙ e; kept = kept-twice m a later t.kept u.kept }

pub turned-long : (m cs later : List ℕ) → Holds m → Turned m cs later → length later ≡ length m
turned-long m cs later w t =
    t.holds.slotted.long ∙ ap (λ (n : ℕ). need n) (kept-n m later t.kept) ∙ sym w.slotted.long

-- two places in order that are not the same
pub strict : (s e : ℕ) → s ≤ e → (s ≡ e → ⊥) → s < e
strict s e h n = cut s e (λ k. k) (λ k. absurd (n (omega arith)))

-- ── a cut from the back ──

module _ (m : List ℕ) (s e : ℕ) (w : Cuts m s e) where
  pub cut-starts : Turned m (cut_out e e (text_in m)) m
  cut-starts = turned_same m (cut_out e e (text_in m)) w.holds (sym (cut-none (text_in m) e w.high))

  module _ (q : ℕ) (low : s ≤ q) (high : q ≤ e) (a : List ℕ) (t : Turned m (cut_out q e (text_in m)) a) where
    -- it may go on
    pub cut_on : Cuts a s q
    cut_on =
        record {
          holds = t.holds;
          low = low;
          high = omega (arith, ap (λ (l : List ℕ). length l) t.text, cut-length (text_in m) e w.high q high);
          loose = subst (λ (l : List ℕ). Loose l s q) (sym t.text) (cut-loose (text_in m) e w.high q high s low w.loose);
        }

    pub cut-further : (p : ℕ) → p ≤ q → (later : List ℕ) → Turned a (cut_out p q (text_in a)) later → Turned m (cut_out p e (text_in m)) later
    cut-further p h later u =
        turned_then m (cut_out q e (text_in m)) a (cut_out p q (text_in a)) (cut_out p e (text_in m)) later t u
        (ap (λ (l : List ℕ). cut_out p q l) t.text ∙ cut-more (text_in m) e w.high q high p h)

-- ── a removal ──

abbrev guard : List ℕ
guard = 0x0D ∷ []

guard-valid : valid_utf8 guard ≡ true
unfolding valid_utf8
guard-valid = refl

guard-char : decode guard ≡ guard
unfolding decode
guard-char = refl

module _ (m : List ℕ) (s e : ℕ) (w : Removes m s e) where
  abbrev cs : List ℕ
  cs = text_in m

  -- an empty range
  pub remove-none : s ≡ e → Turned m (cut_out s e (text_in m)) m
  remove-none f = turned_same m (cut_out s e (text_in m)) w.holds (sym (ap (λ (k : ℕ). cut_out k e (text_in m)) f ∙ cut-none cs e w.high))

  -- no LF behind it
  pub plain-cuts : lf_first (drop e (text_in m)) ≡ false → Cuts m s e
  plain-cuts f = record { holds = w.holds; low = w.low; high = w.high; loose = loose-end cs s e f }

  -- an LF behind it: the guard is put in
  pub guard-puts : Puts m e (0x0D ∷ [])
  guard-puts = record { holds = w.holds; here = w.high; valid = guard-valid; short = omega arith; room = omega (arith, w.room) }

  module _ (g : List ℕ) (t : Turned m (put_in e (decode (0x0D ∷ [])) (text_in m)) g) where
    text-is : text_in g ≡ guarded e (text_in m)
    text-is = t.text ∙ ap (λ (l : List ℕ). put_in e l cs) guard-char

    size_is : length (text_in g) ≡ length (text_in m) + 1
    size_is = ap (λ (l : List ℕ). length l) text-is ∙ guard-length cs s e w.low w.high

    pub guard-here : s ≤ length (text_in g)
    guard-here = omega (arith, size_is, w.low, w.high)

    front-is : cr_last (take s (text_in g)) ≡ cr_last (take s (text_in m))
    front-is = ap (λ (l : List ℕ). cr_last (take s l)) text-is ∙ guard-front cs s e w.low w.high

    guarded-cuts : (q : ℕ) → q ≤ e → Cuts g q e
    guarded-cuts q h =
        record {
          holds = t.holds;
          low = h;
          high = omega (arith, size_is, w.high);
          loose = subst (λ (l : List ℕ). Loose l q e) (sym text-is) (guard-loose cs s e w.low w.high q);
        }

    -- a CR before s
    module _ (cr : cr_last (take s (text_in g)) ≡ true) where
      was : cr_last (take s (text_in m)) ≡ true
      was = sym front-is ∙ cr

      pub cr-one : 1 ≤ s
      cr-one = cr-place cs s e w.low w.high was

      pub cr-cuts : Cuts g (s - 1) e
      cr-cuts = guarded-cuts (s - 1) (omega (arith, w.low))

      pub cr-done : (later : List ℕ) → Turned g (cut_out (s - 1) e (text_in g)) later → Turned m (cut_out s e (text_in m)) later
      cr-done later u =
          turned_then m (put_in e (decode guard) (text_in m)) g (cut_out (s - 1) e (text_in g)) (cut_out s e (text_in m)) later t u
          (ap (λ (l : List ℕ). cut_out (s - 1) e l) text-is ∙ guard-stays cs s e w.low w.high was)

    -- none
    module _ (none : cr_last (take s (text_in g)) ≡ false) where
      pub rest-cuts : Cuts g s e
      rest-cuts = guarded-cuts s w.low

      module _ (h : List ℕ) (u : Turned g (cut_out s e (text_in g)) h) where
        rest-is : text_in h ≡ cut_out s e (guarded e (text_in m))
        rest-is = u.text ∙ ap (λ (l : List ℕ). cut_out s e l) text-is

        pub last-cuts : Cuts h s (s + 1)
        last-cuts =
            record {
              holds = u.holds;
              low = omega arith;
              high = omega (arith, ap (λ (l : List ℕ). length l) rest-is, guard-last cs s e w.low w.high);
              loose = subst (λ (l : List ℕ). Loose l s (s + 1)) (sym rest-is) (guard-alone cs s e w.low w.high (sym front-is ∙ none));
            }

        pub last_done : (later : List ℕ) → Turned h (cut_out s (s + 1) (text_in h)) later → Turned m (cut_out s e (text_in m)) later
        last_done later v =
            let x = turned_then m (put_in e (decode guard) (text_in m)) g (cut_out s e (text_in g)) (cut_out s e (text_in g)) h t u refl in
            turned_then m (cut_out s e (text_in g)) h (cut_out s (s + 1) (text_in h)) (cut_out s e (text_in m)) later x v
            (ap (λ (l : List ℕ). cut_out s (s + 1) l) rest-is ∙ guard-goes cs s e w.low w.high)
