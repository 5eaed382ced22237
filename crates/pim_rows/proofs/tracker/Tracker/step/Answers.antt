use Rattle.std.proofs.Common.{◌≡◌, ◌+◌, ℕ, true, false, map, sym, ◌∙◌, ap, subst, None, Option}
use Rattle.std.proofs.Common.{List, []}
use Rattle.pim_waits.specs.Waiting.{gets}
use Rattle.pim_world.specs.Worlds.{World}
use Rattle.pim_world.specs.After.{after}
use Rattle.pim_world.specs.Held.{world_of, touched_of}
use Rattle.pim_world.specs.Touching.{declares}
use Rattle.pim_waits.specs.Touched.{Touches}
use Rattle.pim_rows.specs.AllOpen.{AreUntil, AreSame, ended_times}
use Rattle.pim_rows.specs.Tracking.{IsBefore}
use Rattle.pim_rows.specs.Found.{actor, mutex_of, asked_mutex, of_fact}
use Rattle.pim_rows.specs.Moments.{now, followed_by}
use Rattle.pim_rows.specs.declared.runs.RunChange.{RunChange}
use Rattle.pim_rows.specs.Runs.{AreChanges, change_of}
use Rattle.pim_rows.specs.Levels.{IsUnrun, MayChange, moves_all, with_levels}
use Rattle.pim_rows.specs.Kept.{kept_of}
use Rattle.pim_rows.specs.Ending.{Puts}
use Rattle.pim_rows.specs.Rows.{ended_rows, by_number}
use Rattle.pim_rows.proofs.Opening.{until_after}
use Rattle.pim_rows.proofs.RunChanges.{IsEven-after}
use Rattle.pim_rows.proofs.KeptLevels.{levels_followed}
use Rattle.pim_rows.proofs.SameStanding.{AreWaits-after}
use Rattle.pim_rows.proofs.Stepping.{written_after}
use Rattle.pim_rows.proofs.tracker.Tracker.step.Goals as goal

pub follow-requires : goal.follow-requires
follow-requires c =
    let ms = c.requires.0 in
    let tracks = c.requires.1 in
    let l = c.args.line.now in
    let w = c.in_ok-go.ensures.world ∙ ap (λ (w : World). after w l) tracks.world in
    let P : World → Type 0 = λ w. AreUntil w.clock c.args.self.now.opens.opens.items in
    subst P (sym w) (until_after c.args.self.now.opens.opens.items ms l tracks.opens)

pub returns : goal.returns
returns c ms tracks may =
    let l = c.args.line.now in
    let w = c.in_ok-go.ensures.world ∙ ap (λ (w : World). after w l) tracks.world in
    let n = c.in_ok-n.ensures ∙ ap (λ n. n + 1) tracks.number in
    let thread : c.actor.result ≡ actor (now ms) l =
    c.actor.ensures ∙ ap (λ (w : World). actor w l) tracks.world in
    let mutex : c.locked_mutex.result ≡ mutex_of (now ms) l =
    c.locked_mutex.ensures ∙ ap (λ (w : World). mutex_of w l) tracks.world in
    let asked : c.asked_mutex-asked.result
    ≡ of_fact None (λ t what. asked_mutex (now ms) t what) (now ms) l =
    c.asked_mutex-asked.ensures
    ∙ ap (λ (w : World). of_fact None (λ t what. asked_mutex w t what) w l) tracks.world in
    let was : IsBefore c.of-was.result (now ms) c.actor.result c.locked_mutex.result =
    let P : World → Type 0 = λ w. IsBefore c.of-was.result w c.actor.result c.locked_mutex.result in
    subst P tracks.world c.of-was.ensures in
    let off = c.in_ok-go.ensures.off ms tracks.world thread was.off tracks.off_times in
    let touches : declares l ≡ false
    → Touches (now ms).state (world_of c.go.new.world).state [] (touched_of c.go.new.world) =
    λ d. let P : World → Type 0 =
    λ v. Touches v.state (world_of c.go.new.world).state [] (touched_of c.go.new.world) in
    subst P tracks.world (c.in_ok-go.ensures.touched d) in
    let same : AreSame (now ms) (after (now ms) l) c.deref.result.now =
    let P : List ℕ → Type 0 = λ ts. AreSame (now ms) (after (now ms) l) ts in
    subst P (sym c.deref.ensures.value)
    (c.in_ok-put_affected.ensures ms w tracks.waiting touches tracks.opens) in
    let opens = c.in_ok-times.ensures.kept ms l w thread was.waits same tracks.opens in
    let times = c.in_ok-times.ensures.ended ms l w thread was.waits tracks.opens in
    let put =
    c.in_ok-ended.ensures ms w n thread
    (λ t e. times ∙ ap (λ (o : Option ℕ). ended_times o ms l) e) may tracks.starts
    tracks.blocks in
    let unrun : c.may_run-is_run.result ≡ false → IsUnrun (now ms) l =
    λ h. let P : World → Type 0 =
    λ w. IsUnrun w l in subst P tracks.world (c.may_run-is_run.ensures h) in
    let moved : c.may_run-is_run.result ≡ true
    → moves_all l ≡ true → c.in_ok-all.all.items ≡ by_number (now ms) =
    λ h moves. c.in_ok-all.ensures h moves ∙ ap by_number tracks.world in
    let may_change : MayChange (now ms) l c.in_ok-threads.threads.items =
    c.in_ok-threads.ensures (now ms) w tracks.even thread unrun moved touches in
    let values : c.in_ok-changes.changes.items
    ≡ map (change_of (now ms) (after (now ms) l)) c.in_ok-threads.threads.items =
    c.in_ok-changes.ensures (now ms) tracks.levels
    ∙ ap (λ (v : World). map (change_of (now ms) v) c.deref-2.result.now) w
    ∙ ap (map (change_of (now ms) (after (now ms) l))) c.deref-2.ensures.value in
    let changed : AreChanges
    (now ms) (after (now ms) l) c.in_ok-threads.threads.items c.in_ok-changes.changes.items =
    may_change c.in_ok-changes.changes.items values in
    let changes : AreChanges
    (now ms) (after (now ms) l) c.in_ok-threads.threads.items c.deref-3.result.now =
    let P : List RunChange → Type 0 =
    λ cs. AreChanges (now ms) (after (now ms) l) c.in_ok-threads.threads.items cs in
    subst P (sym c.deref-3.ensures.value) changed in
    let levels =
    levels_followed
    (now ms) (after (now ms) l) c.in_ok-threads.threads.items c.in_ok-changes.changes.items
    (kept_of c.args.self.now.levels.apart) (kept_of c.follow-3.new.self.apart) changed tracks.levels
    (c.in_ok-follow-2.ensures
    ∙ ap (with_levels (kept_of c.args.self.now.levels.apart)) c.deref-4.ensures.value) in
    let grants =
    c.in_ok-follow-3.ensures ms l w n mutex was.owned
    (λ m e. c.off_of_owner-off.ensures (followed_by ms l) m e w off) tracks.grants in
    record {
      world = w;
      even = IsEven-after (now ms) l tracks.even;
      waiting = AreWaits-after (now ms) l tracks.waiting;
      number = n;
      starts =
          c.in_ok-follow-5.ensures ms l w n thread was.waits
          (λ t e. c.got_by-got.ensures t e
          ∙ ap (λ (w : World). gets w.state t) w) grants tracks.starts;
      opens = opens;
      blocks = c.in_ok-follow-4.ensures ms l w n thread was.blocked tracks.blocks;
      grants = grants;
      off_times = off;
      levels = levels;
      runs = c.in_ok-follow.ensures.kept ms l c.in_ok-threads.threads.items w n changes tracks.runs;
      sections =
          c.in_ok-end_section.ensures ms l w mutex was.owned tracks.grants off tracks.sections;
      nests = c.in_ok-put_nests.ensures ms l tracks.world n thread asked tracks.grants tracks.nests;
      written =
          let P : ℕ → Type 0 = λ a. Puts (ended_rows (followed_by ms l))
          [] c.follow-2.new.out.items a c.in_ok-self-2.field-0 in
          let Q : ℕ → Type 0 = λ b.
          Puts (ended_rows (followed_by ms l)) [] c.follow-2.new.out.items
          (c.args.self.now.waits + c.in_ok-ended.ended.waits) b in
          subst P (sym c.in_ok-self.ensures)
          (subst Q (sym c.in_ok-self-2.ensures)
          (written_after
          ms l _ _ c.follow-2.new.out.items _ _ c.in_ok-ended.ended tracks.written put
          (c.in_ok-follow.ensures.text
          ms l c.in_ok-threads.threads.items w n changes tracks.runs)));
    }
