use Rattle.std.proofs.Common.{◌≡◌, ℕ, true, List, ◌++◌, sym, ◌∙◌, ap, subst, None, unwrap_or, map}
use Rattle.std.proofs.Common.{length, nat_lt, flat_map}
use Rattle.pim_world.specs.Worlds.{World}
use Rattle.pim_rows.specs.Moments.{now}
use Rattle.pim_rows.specs.OpenWaits.{IsUntil}
use Rattle.pim_rows.specs.Ending.{Puts}
use Rattle.pim_rows.specs.Rows.{text_of, by_number, lasting_wait, lasting_block, section_row}
use Rattle.pim_rows.specs.Rows.{nests_row, deadlock_rows}
use Rattle.pim_rows.specs.Runs.{levels_of}
use Rattle.pim_rows.proofs.NoWaits.{twelfth}
use Rattle.pim_rows.proofs.Finishing.{all_counted, ended_with, all_written, status_is, some_bad}
use Rattle.pim_rows.proofs.Finishing.{none_bad}
use Rattle.pim_rows.proofs.tracker.Tracker.put_rest.Goals as goal
use Rattle.pim_rows.proofs.tracker.Tracker.put_rest.Goals.{then-inverted-gt0, else-inverted-gt0}

pub put_lasting_waits-requires : goal.put_lasting_waits-requires
put_lasting_waits-requires c t w e =
    let tracks = c.requires.1 in
    let P : World → Type 0 = λ v. IsUntil v.clock w in
    subst P (sym tracks.world) (tracks.opens.each t w (ap (λ o. unwrap_or o None) e)).until

pub returns : goal.returns
returns c ms tracks =
    let w = tracks.world in
    let places : c.in_ok-places.places.items ≡ by_number (now ms) =
    c.in_ok-places.ensures ∙ ap by_number w in
    let first : c.deref.result.now ≡ by_number (now ms) = c.deref.ensures.value ∙ places in
    let second : c.deref-2.result.now ≡ by_number (now ms) = c.deref-2.ensures.value ∙ places in
    let levels : c.deref-3.result.now ≡ map (levels_of (now ms)) (by_number (now ms)) =
    c.deref-3.ensures.value
    ∙ c.in_ok-levels.ensures ∙ ap (λ (v : World). map (levels_of v) (by_number v)) w in
    let waits : Puts (flat_map (lasting_wait ms) (by_number (now ms))) c.args.self.now.out.items
    c.put_lasting_waits.new.out.items c.in_ok-lasting.lasting.0 c.in_ok-lasting.lasting.1 =
    let P : List ℕ → Type 0 = λ ts. Puts (flat_map (lasting_wait ms) ts) c.args.self.now.out.items
    c.put_lasting_waits.new.out.items c.in_ok-lasting.lasting.0 c.in_ok-lasting.lasting.1 in
    subst P first (c.in_ok-lasting.ensures ms w tracks.starts tracks.opens) in
    let blocks =
    c.in_ok-put_lasting_blocks.ensures ms w tracks.blocks
    ∙ ap (λ (ts : List ℕ).
    c.put_lasting_waits.new.out.items ++ text_of (flat_map (lasting_block ms) ts)) second in
    let runs = c.in_ok-put_lasting.ensures ms w levels tracks.runs in
    let sections =
    c.in_ok-put_sections.ensures
    ∙ ap (λ table. c.put_lasting.new.out.items ++ text_of (map section_row table))
    (c.in_ok-put_lasting_sections.ensures ms w tracks.grants tracks.off_times tracks.sections) in
    let nest_rows =
    c.in_ok-put_nests.ensures
    ∙ ap (λ table. c.put_sections.new.out.items ++ text_of (map nests_row table)) tracks.nests in
    let deadlocks =
    c.in_ok-deadlocks.ensures.text
    ∙ ap (λ (v : World). c.put_nests.new.out.items ++ text_of (deadlock_rows v)) w in
    let count : c.in_ok-deadlocks.deadlocks ≡ length (deadlock_rows (now ms)) =
    c.in_ok-deadlocks.ensures.count ∙ ap (λ (v : World). length (deadlock_rows v)) w in
    let all =
    c.in_ok-waits.ensures ∙ all_counted ms (twelfth (λ n. true)) _ _ tracks.written.waits waits.waits in
    let inverted =
    c.in_ok-inverted.ensures
    ∙ all_counted ms (twelfth (λ n. nat_lt 0 n)) _ _ tracks.written.inverted waits.inverted in
    let time = c.clock.ensures ∙ ap (λ (v : World). v.clock) w in
    let end = ended_with ms _ _ _ _ _ tracks.number time all inverted count in
    let text =
    all_written
    ms _ _ _ _ _ _ _ _ _ tracks.written.text waits.text blocks runs sections nest_rows deadlocks
    c.in_ok-put_row.ensures end in
    let status = status_is ms _ _ inverted count in
    elim c.if-inverted-gt0.branch [
      | then-inverted-gt0 x ↦ (
        text,
        x.result-is ∙ some_bad
            c.in_ok-inverted.inverted c.in_ok-deadlocks.deadlocks x.if-inverted-gt0.true ∙ status,
      )
      | else-inverted-gt0 x ↦ (
        text,
        x.result-is ∙ none_bad c.in_ok-inverted.inverted
            c.in_ok-deadlocks.deadlocks x.if-inverted-gt0.false ∙ status,
      )
    ]
