use Rattle.std.proofs.Common.{◌≡◌, ℕ, ◌<◌, false, length, sym, subst, ◌∙◌, ap, if◌then◌else◌}
use Rattle.std.specs.List.{fold}
use Rattle.pim_base.specs.Lists.{holds}
use Rattle.pim_base.specs.State.{State, owner_of, owned}
use Rattle.pim_base.proofs.HandOvers.{filter_numbers-until}
use Rattle.pim_base.proofs.Stored.{holds_from}
use Rattle.pim_waits.specs.Own.{IsFirstAfter}
use Rattle.pim_world.specs.Worlds.{World, owns}
use Rattle.pim_world.specs.Held.{world_of}
use Rattle.pim_rows.specs.Moments.{now}
use Rattle.pim_rows.specs.Found.{put_nest}
use Rattle.pim_rows.proofs.Passing.{fold_filtered-next}
use Rattle.pim_rows.proofs.nesting.put_nests_of.Goals as goal

pub loop-outer-preserved : goal.loop-outer-preserved
loop-outer-preserved c =
    let t = c.args.thread in
    let m = c.args.mutex in let last = c.loop-outer.last in let outer = c.in-Some.outer in
    let S = (world_of c.args.world.now).state in
    let first : IsFirstAfter S t last outer =
    subst (λ T. IsFirstAfter T t last outer) c.waits.ensures c.in-Some.ensures in
    record {
      within = first.mutex.1;
      table = λ ms w line are.
          c.in_ok-put_nest.ensures ms w line are
          ∙ ap (λ rows. put_nest ms t m rows outer) (c.loop-outer.invariant.table ms w line are)
          ∙ sym (fold_filtered-next
          (put_nest ms t m) c.args.table.now (λ k. holds (owner_of S k) t) last outer
          first.later (holds_from (owner_of S outer) t first.owner) first.first);
    }

pub returns : goal.returns
returns c ms w line are =
    let t = c.args.thread in let m = c.args.mutex in let last = c.loop-outer.last in
    let S = (world_of c.args.world.now).state in
    let none : (k : ℕ) → last < k → holds (owner_of S k) t ≡ false =
    subst (λ (T : State). (k : ℕ)
    → last < k → holds (owner_of T k) t ≡ false) c.waits.ensures c.in_default.ensures in
    let no : owns (now ms) t m ≡ false = sym (c.if-owns.ensures ∙ ap (λ w. owns w t m) w) in
    let rows = c.args.table.now in
    c.loop-outer.invariant.table ms w line are
    ∙ ap (fold (put_nest ms t m) rows)
    (sym (filter_numbers-until (λ k. holds (owner_of S k) t) last
    (length S.protocol) c.loop-outer.invariant.within (λ k low high. none k low)))
    ∙ ap (λ (w : World). fold (put_nest ms t m) rows (owned w.state t)) w
    ∙ sym (ap (λ b. if b then rows else fold (put_nest ms t m) rows (owned (now ms).state t)) no)
