use Rattle.std.proofs.Common.{◌≡◌, ◌≢◌, ◌∙◌, ap, sym, refl, rules, arith, length}
use Rattle.pim_sets.specs.Numbers.{left_in, IsUnderWay}
use Rattle.pim_sets.proofs.Left.{left_none, left_same, left_first, still_under_way}
use Rattle.pim_sets.proofs.number_set.NumbersIterator.next.Goals as goal
use Rattle.pim_sets.proofs.number_set.NumbersIterator.next.Goals.{then-self-eq0+else-self-eq0-2, else-self-eq0}

pub returns-then-self-eq0-2-clause-steps : goal.returns-then-self-eq0-2-clause-steps
returns-then-self-eq0-2-clause-steps c =
    let here = c.self.inside in
    let empty =
    sym c.self.view_is
    ∙ left_none here.words.now here.filled here.index here.word (search rules) (search rules) in
    (empty, empty)

pub returns-clause-steps : goal.returns-clause-steps
returns-clause-steps c =
    let was = c.self.inside in
    let here = c.if-self-eq0.self-inside in
    let place = c.lowest_bit-place in
    let rest = c.without_bit-self-inside-2 in
    let ready :
    (here.word ≢ 0)
    × IsUnderWay here.words.now here.filled here.index here.word
    × (left_in was.words.now was.filled was.index was.word ≡ left_in here.words.now here.filled here.index here.word) =
    elim c.if-self-eq0.branch [
      | then-self-eq0+else-self-eq0-2 w ↦
          let index = w.lowest_bit-self-inside in
          let after = w.without_bit-self-inside.ensures in
          rw w.self-inside-is (
            c.self.invariant.nonzero index.result index.ensures.within index.ensures.is_set,
            still_under_way was.words.now was.filled index.result _ index.ensures.is_set after.same after.others
                c.self.invariant index.ensures.within index.ensures.none_below,
            left_same was.words.now was.filled index.result _ index.ensures.is_set after.same after.others
                was.index was.word w.if-self-eq0.true,
          )
      | else-self-eq0 w ↦ rw w.self-inside-is (search rules, c.self.invariant, refl)
    ] in
    sym c.self.view_is ∙ ready.2
    ∙ left_first here.words.now here.filled here.index here.word rest.result place.result _ ready.1 ready.0
    place.ensures.within place.ensures.is_set place.ensures.none_below rest.ensures.same rest.ensures.others refl

pub returns-clause-goes : goal.returns-clause-goes
returns-clause-goes c =
    let longer = ap length (returns-clause-steps c) in
    search (rules, arith)
