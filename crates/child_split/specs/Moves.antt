-- A child that goes from one of two lists to the other.
use Rattle.std.specs.Prelude.{[], ◌∷◌, ◌++◌, ◌-◌, take, drop, get_or}
use Rattle.pool.specs.Slot.{no_kid}
use Rattle.node_children.specs.declared.NodeChildren.{NodeChildren}
use Rattle.node_children.specs.Kids.{kids, list_of}
use Rattle.node_children.specs.Calls.{with_kid}

-- the last one of the left list, to the front of the right one
abbrev pub last_out : NodeChildren → NodeChildren
last_out a = list_of (take (a.len - 1) (kids a))

abbrev pub last_in : NodeChildren → NodeChildren → NodeChildren
last_in a b = list_of (with_kid 0 (get_or (kids a) (a.len - 1) no_kid) (kids b))

-- the first one of the right list, to the end of the left one
abbrev pub first_out : NodeChildren → NodeChildren
first_out b = list_of (drop 1 (kids b))

abbrev pub first_in : NodeChildren → NodeChildren → NodeChildren
first_in a b = list_of (kids a ++ (get_or (kids b) 0 no_kid ∷ []))
