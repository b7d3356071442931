-- What an edit made of a node of height h in slot s: as good as any child, or good but for its size. An edit that was not done made nothing of it.
use Rattle.std.specs.Prelude.{◌≡◌, true, List, [], ◌∷◌, map, ℕ, ◌<◌}
use Rattle.text_info.specs.declared.TextInfo.{TextInfo}
use Rattle.pool.specs.declared.Kid.{Kid}
use Rattle.pool.specs.Slot.{len_of}
use Rattle.tree.specs.Tree.{every, seamless, least_at, told_right, sound}
use Rattle.tree.specs.Kids.{below, fine}
use Rattle.edit_steps.specs.Made.{Made, Made.same, Made.split, Made.small, Made.apart}
use Rattle.edit_steps.specs.Became.{Became}

-- children, each sound and told right, with whole seams between them
pub record Grown (m later : List ℕ) (n d : ℕ) (u : ℕ → ℕ) (h : ℕ) (outs : List Kid) (t : List ℕ) : Type 0 where
  pub became : Became m later n d u h outs t
  pub each : every (fine later h) outs ≡ true
  pub seams : seamless (map (below later h) outs) ≡ true

-- one child, sound below its own size, which is less than a child's
pub record Shrunk (m later : List ℕ) (n d : ℕ) (u : ℕ → ℕ) (h : ℕ) (out : Kid) (t : List ℕ) : Type 0 where
  pub became : Became m later n d u h (out ∷ []) t
  pub good : sound later 0 h out.slot ≡ true
  pub told : told_right later h out ≡ true
  pub few : len_of later out.slot < least_at h

abbrev pub kid : ℕ → TextInfo → Kid
kid s i = record { slot = s; info = i }

abbrev pub MadeIs : List ℕ → List ℕ → ℕ → ℕ → (ℕ → ℕ) → ℕ → ℕ → List ℕ → Made → Type 0
MadeIs m later n d u h s t (same i) = Grown m later n d u h (kid s i ∷ []) t
MadeIs m later n d u h s t (split i v j) = Grown m later n d u h (kid s i ∷ kid v j ∷ []) t
MadeIs m later n d u h s t (small i) = Shrunk m later n d u h (kid s i) t
MadeIs m later n d u h s t apart = ⊥
