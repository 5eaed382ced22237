use Rattle.std.proofs.Common.{◌≡◌, ◌∙◌, sym, arith, rules}
use Rattle.std.proofs.lemmas.Option.{same_Some}
use Rattle.std.specs.Prelude.{is_err, false}
use Rattle.pim_shared.proofs.Publishing.{one_pending, one_published, last_published, book_more, ok_part}
use Rattle.pim_shared.proofs.book.Book.call.Goals as goal

pub publish-requires-clause-one : goal.publish-requires-clause-one
publish-requires-clause-one g c =
    let made : is_err c.append.result ≡ false = search rules in
    one_pending _ _ _ _ _ _ c.self.invariant.published (ok_part c.append.result _ _ made c.append.ensures)

pub unreachable-requires : goal.unreachable-requires
unreachable-requires g c =
    let made : is_err c.append.result ≡ false = search rules in
    let is = one_published _ _ _ _ _ _ _ c.self.invariant.published (ok_part c.append.result _ _ made c.append.ensures) c.publish.ensures in
    let last = c.last.ensures ∙ last_published _ _ _ _ _ is in
    cc (last, c.in_default.is)

pub invariant_of-self-2 : goal.invariant_of-self-2
invariant_of-self-2 g c =
    let made : is_err c.append.result ≡ false = search rules in
    let is = one_published _ _ _ _ _ _ _ c.self.invariant.published (ok_part c.append.result _ _ made c.append.ensures) c.publish.ensures in
    let last = sym c.in-Some.is ∙ c.last.ensures ∙ last_published _ _ _ _ _ is in
    book_more _ _ _ _ _ _ _ c.self.invariant is (omega arith) (cc (c.push_reserved.ensures.items, c.entry.ensures, same_Some _ _ last)) c.push_reserved.ensures.capacity

pub returns : goal.returns
returns g c =
    let made : is_err c.append.result ≡ false = search rules in
    let is = one_published _ _ _ _ _ _ _ c.self.invariant.published (ok_part c.append.result _ _ made c.append.ensures) c.publish.ensures in
    let last = same_Some _ _ (sym c.in-Some.is ∙ c.last.ensures ∙ last_published _ _ _ _ _ is) in
    search rules
