use Rattle.std.proofs.Common.{◌∙◌, ap, subst, sym, length}
use Rattle.pim_chain.specs.Settled.{Calm}
use Rattle.pim_base.specs.Lists.{holds}
use Rattle.pim_chain.proofs.Repeated.{nth-replicate_none}
use Rattle.pim_chain.proofs.Start.{is_fresh, calm_fresh}
use Rattle.pim_chain.proofs.tables.Tables.new.Goals as goal

pub returns-clause-calm : goal.returns-clause-calm
returns-clause-calm c =
    subst Calm
    (sym (is_fresh c.in_ok-from_slice.ensures.items c.in_ok-from_slice-2.ensures.items c.in_ok-filled.ensures
    c.in_ok-filled-2.ensures c.in_ok-filled-3.ensures c.in_ok-from_slice-3.ensures.items c.in_ok-new-2.ensures))
    (calm_fresh c.args.bases.now c.args.protocols.now c.requires.tasks c.requires.mutexes)

pub invariant_of-result : goal.invariant_of-result
invariant_of-result c = record {
  ready = (returns-clause-calm c).ready;
  owned = rw (c.in_ok-from_slice.ensures.items, c.in_ok-filled.ensures) (record {
    len = c.in_ok-new.ensures.len;
    members = λ t m low high. c.in_ok-new.ensures.none t m low high ∙ sym (ap (λ o. holds o t) (nth-replicate_none (length c.args.protocols.now) m));
  });
}
