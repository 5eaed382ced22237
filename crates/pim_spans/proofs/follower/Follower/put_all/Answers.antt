use Rattle.std.proofs.Common.{◌≡◌, ◌∙◌, ◌++◌, ℕ, List, ap, length}
use Rattle.pim_base.specs.State.{State}
use Rattle.pim_world.specs.Worlds.{World}
use Rattle.pim_world.specs.Held.{world_of}
use Rattle.pim_rows.specs.Moments.{now}
use Rattle.pim_spans.specs.declared.kind.Kind.TheVariants as kinds
use Rattle.pim_spans.specs.Found.{kind_text}
use Rattle.pim_spans.specs.Kept.{kept_at}
use Rattle.pim_spans.proofs.Puts.{kind_is, five}
use Rattle.pim_spans.proofs.follower.Follower.put_all.Goals as goal

pub returns : goal.returns
returns c ms follows =
    let self = c.args.self.now in
    let w = self.window in
    let v = world_of self.world in
    let threads : c.threads-count.result ≡ length (now ms).state.base =
    c.threads-count.ensures ∙ ap (λ (S : State). length S.base) c.waits.ensures
    ∙ ap (λ (v : World). length v.state.base) follows.world in
    let mutexes : c.mutexes-mutexes.result ≡ length (now ms).state.protocol =
    c.mutexes-mutexes.ensures ∙ ap (λ (S : State). length S.protocol) c.waits-2.ensures
    ∙ ap (λ (v : World). length v.state.protocol) follows.world in
    five c.args.out.now.items
    (kind_text w ms kinds.Gets (length (now ms).state.base))
    (kind_text w ms kinds.Owns (length (now ms).state.protocol))
    (kind_text w ms kinds.Waits (length (now ms).state.base))
    (kind_text w ms kinds.Inverted (length (now ms).state.base))
    (kind_text w ms kinds.Stalled (length (now ms).state.base))
    c.put_tracks.new.out.items c.put_tracks-2.new.out.items c.put_tracks-3.new.out.items
    c.put_tracks-4.new.out.items c.put_tracks-5.new.out.items
    (c.in_ok-put_tracks.ensures
    ∙ ap (λ (x : List ℕ). c.args.out.now.items ++ x)
    (kind_is w kinds.Gets ms v (kept_at self.threads.gets.tracks.items) _ _ follows.world threads
    (λ n low. (follows.threads n low).gets)))
    (c.in_ok-put_tracks-2.ensures
    ∙ ap (λ (x : List ℕ). c.put_tracks.new.out.items ++ x)
    (kind_is w kinds.Owns ms v (kept_at self.owns.tracks.items) _ _ follows.world mutexes
    follows.owns))
    (c.in_ok-put_tracks-3.ensures
    ∙ ap (λ (x : List ℕ). c.put_tracks-2.new.out.items ++ x)
    (kind_is w kinds.Waits ms v (kept_at self.threads.waits.tracks.items) _ _ follows.world threads
    (λ n low. (follows.threads n low).waits)))
    (c.in_ok-put_tracks-4.ensures
    ∙ ap (λ (x : List ℕ). c.put_tracks-3.new.out.items ++ x)
    (kind_is w kinds.Inverted ms v (kept_at self.threads.inverted.tracks.items) _ _ follows.world
    threads (λ n low. (follows.threads n low).inverted)))
    (c.in_ok-put_tracks-5.ensures
    ∙ ap (λ (x : List ℕ). c.put_tracks-4.new.out.items ++ x)
    (kind_is w kinds.Stalled ms v (kept_at self.threads.stalled.tracks.items) _ _ follows.world
    threads (λ n low. (follows.threads n low).stalled)))
