use Rattle.std.proofs.Common.{◌∙◌, ap, sym}
use Rattle.std.proofs.lemmas.Option.{same_Some}
use Rattle.pim_spans.specs.Holding.{owned_by}
use Rattle.pim_spans.specs.Kept.{kept_at}
use Rattle.pim_spans.proofs.Threads.{owners_noted}
use Rattle.pim_spans.proofs.follower.follow_owner.Goals as goal

pub returns : goal.returns
returns c m ms world line clock unmoved are =
    owners_noted c.args.window m ms (kept_at c.args.owns.now.tracks.items)
    (kept_at c.note.new.self.tracks.items) c.mutex.inside.0
    (λ f low e either.
    c.in_ok-note.ensures.here f m ms low
    (c.owned_by.ensures ∙ ap (owned_by c.in-Some.mutex) world
    ∙ ap (λ k. owned_by k m.world) (sym c.mutex.view_is) ∙ e) line clock either)
    c.in_ok-note.ensures.others
    (λ n ne. unmoved n
    (λ k e same. ne (c.mutex.view_is ∙ same_Some _ _ (sym c.in-Some.is ∙ e) ∙ same)))
    are
