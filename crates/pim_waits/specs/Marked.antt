-- What holds of the marks of a component.
use Rattle.std.specs.Prelude.{◌≡◌, ◌+◌, ℕ, not, length, count_by}
use Rattle.pim_base.specs.Lists.{contains}
use Rattle.pim_waits.specs.declared.component.Component.TheInside.{Inside}
use Rattle.pim_waits.specs.Members.{Members, is_marked}

abbrev pub members_of : Inside → Members
members_of c = record { threads = c.members.items; room = length c.marks.items }

-- the members are marked, each is there once, and no other thread is marked
pub record AreMarked (c : Inside) : Type 0 where
  pub marked : (t : ℕ) → is_marked c.marks.items t ≡ contains c.members.items t
  pub counted : length c.members.items + count_by not c.marks.items ≡ length c.marks.items
