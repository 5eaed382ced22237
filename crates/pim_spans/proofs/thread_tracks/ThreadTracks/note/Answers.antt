use Rattle.std.proofs.Common.{◌≡◌, ◌∙◌, ◌∷◌, ℕ, Option, ap}
use Rattle.std.specs.Option.{option_map_or}
use Rattle.pim_world.specs.declared.standing.Standing.{Standing}
use Rattle.pim_world.specs.Standing.{standing}
use Rattle.pim_world.specs.Worlds.{World}
use Rattle.pim_spans.specs.declared.kind.Kind.TheVariants as kinds
use Rattle.pim_spans.specs.Spans.{Start}
use Rattle.pim_spans.specs.Holding.{holding, level_of, awaited_by, wait_line, of_wait}
use Rattle.pim_spans.specs.Kept.{kept_at}
use Rattle.pim_spans.proofs.Threads.{noted_at}
use Rattle.pim_spans.proofs.thread_tracks.ThreadTracks.note.Goals as goal

pub returns-clause-here : goal.returns-clause-here
returns-clause-here c m ms low world line clock either =
    let t = c.args.thread in
    let w = c.args.window in
    let gets =
    noted_at w (holding kinds.Gets t) m ms (kept_at c.args.self.now.gets.tracks.items)
    (kept_at c.note.new.self.tracks.items) c.thread.inside.0 t c.thread.view_is
    (λ low is. c.in_ok-note.ensures.here (holding kinds.Gets t) m ms low
    (c.level_of.ensures ∙ ap (λ (v : World). level_of t v) world) line clock is) low either.gets in
    let waits =
    noted_at w (holding kinds.Waits t) m ms (kept_at c.args.self.now.waits.tracks.items)
    (kept_at c.note-2.new.self.tracks.items) c.thread.inside.0 t c.thread.view_is
    (λ low is. c.in_ok-note-2.ensures.here (holding kinds.Waits t) m ms low
    (c.awaited_by.ensures ∙ ap (λ (v : World). awaited_by t v) world) line clock is) low
    either.waits in
    let since : c.line-line.result ≡ wait_line t (m ∷ ms) =
    c.line-line.ensures
    ∙ ap (λ (n : ℕ). option_map_or (λ (s : Start). s.line) (kept_at c.note-2.new.self.tracks.items n).lasts 0)
    c.thread.view_is
    ∙ ap (λ (o : Option Start). option_map_or (λ (s : Start). s.line) o 0) waits.lasts in
    let now : c.of-standing.result ≡ standing m.world t =
    c.of-standing.ensures ∙ ap (λ (v : World). standing v t) world in
    let inverted =
    noted_at w (holding kinds.Inverted t) m ms (kept_at c.args.self.now.inverted.tracks.items)
    (kept_at c.note-3.new.self.tracks.items) c.thread.inside.0 t c.thread.view_is
    (λ low is. c.in_ok-note-3.ensures.here (holding kinds.Inverted t) m ms low
    (c.of_wait-inverted.ensures
    ∙ ap (λ (n : ℕ). of_wait n c.of-standing.result.inverted) since
    ∙ ap (λ (s : Standing). of_wait (wait_line t (m ∷ ms)) s.inverted) now) line clock is) low
    either.inverted in
    let stalled =
    noted_at w (holding kinds.Stalled t) m ms (kept_at c.args.self.now.stalled.tracks.items)
    (kept_at c.note-4.new.self.tracks.items) c.thread.inside.0 t c.thread.view_is
    (λ low is. c.in_ok-note-4.ensures.here (holding kinds.Stalled t) m ms low
    (c.of_wait-stalled.ensures
    ∙ ap (λ (n : ℕ). of_wait n c.of-standing.result.stalled) since
    ∙ ap (λ (s : Standing). of_wait (wait_line t (m ∷ ms)) s.stalled) now) line clock is) low
    either.stalled in
    record { gets = gets; waits = waits; inverted = inverted; stalled = stalled }
