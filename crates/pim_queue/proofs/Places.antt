-- The place of a waiter in its queue.
use Rattle.std.proofs.lemmas.Grind.{common_steps}
use Rattle.std.proofs.Common.{◌≡◌, ℕ, zero, suc, ◌<◌, ◌≤◌, Bool, true, false, not, refl, sym, ◌∙◌, ap, subst, arith, Some, List, [], ◌∷◌, ◌++◌, append_assoc, add-one, length, length-append, length-drop, get_or, ◌+◌, ◌-◌, cond, set, take, drop, rules}
use Rattle.std.specs.List.{AllByRecursion, find, insert, remove, between, copy_within, position_or_len}
use Rattle.std.specs.List.Sorted.{IsPartitionedBy, IsPartitionPoint}
use Rattle.std.proofs.lemmas.Bool.{cond_both, not-true, not-false, cond-true, cond-false}
use Rattle.std.proofs.lemmas.List.{same_lists, places, length-take, length-take-le, take-take, take_at, drop-drop, drop_all, set_split, with_items_is}
use Rattle.std.proofs.lemmas.List.{take_rest}
use Rattle.std.proofs.lemmas.List.Elements.{All-from_recursion}
use Rattle.std.proofs.lemmas.List.Folds.{prefix_len-append}
use Rattle.std.proofs.lemmas.List.Sums.{prefix_len-le-length, position_or_len_is}
use Rattle.std.proofs.lemmas.Option.{none-some, same_Some}
use Rattle.std.proofs.lemmas.Slice.{between_to_end}
use Rattle.pim_base.specs.declared.steps.Waiter.{Waiter}
use Rattle.pim_base.specs.Lists.{insert_by}
use Rattle.pim_base.specs.Queues.{precedes}
use Rattle.pim_queue.specs.Waiters.{is_of, without, IsOrdered}
use Rattle.pim_queue.proofs.Order.{found_holds, before_trans, before_itself, before_not, ordered_take, ordered_drop}

ordered_at :
    (ws : List Waiter)
    → IsOrdered ws
    → (i j : ℕ) (d : Waiter)
    → i < j
    → j < length ws
    → precedes (get_or ws i d) (get_or ws j d) ≡ true
ordered_at [] h i j d less low = absurd (omega arith)
ordered_at (w ∷ ws) h i zero d less low = absurd (omega arith)
ordered_at (w ∷ ws) h zero (suc j) d less low = All-from_recursion _ ws h.0 j d (omega arith)
ordered_at (w ∷ ws) h (suc i) (suc j) d less low = ordered_at ws h.1 i j d (omega arith) (omega arith)

-- the waiters that a waiter doesn't precede are in front of it
pub partitioned : (w : Waiter) (ws : List Waiter) → IsOrdered ws → IsPartitionedBy (λ v. not (precedes w v)) ws
partitioned w ws ordered i j d le low behind = grind (arith, before_trans, ordered_at)

-- its place is in front of the first that it comes before
pub insert_by_is :
    (w : Waiter) (ws : List Waiter)
    → insert_by precedes ws w ≡ insert ws (position_or_len (precedes w) ws) w
insert_by_is w [] = refl
insert_by_is w (v ∷ vs) =
    let next : 1 + position_or_len (precedes w) vs ≡ suc (position_or_len (precedes w) vs) = omega arith in
    cond_both (precedes w v) (w ∷ v ∷ vs) (v ∷ insert_by precedes vs w)
    (λ us. us ≡ insert (v ∷ vs) (position_or_len (precedes w) (v ∷ vs)) w)
    (λ first. rw first)
    (λ later. rw (later, next, insert_by_is w vs))

pub place_is :
    (w : Waiter) (ws : List Waiter) (i : ℕ)
    → i ≤ length ws
    → IsPartitionPoint (λ v. not (precedes w v) ≡ true) (λ v. not (precedes w v) ≡ false) ws i
    → i ≡ position_or_len (precedes w) ws
place_is w ws i le point =
    sym (position_or_len_is (precedes w) ws i w le (λ k less. not-true _ (point.0 k w (omega arith) less))
    (λ less. not-false _ (point.1 i w (omega arith) less)))

-- ---- one that is here
-- its place, which is one in front of the first that it comes before
record Here (w : Waiter) (ws : List Waiter) : Type 0 where
  place : ℕ
  next : position_or_len (precedes w) ws ≡ 1 + place
  out : without w.task ws ≡ remove ws place

-- before all of them
first_of_all :
    (w : Waiter) (ws : List Waiter)
    → AllByRecursion (λ v. precedes w v ≡ true) ws
    → position_or_len (precedes w) ws ≡ 0
first_of_all w [] h = refl
first_of_all w (v ∷ vs) h = ap (λ b. cond (not b) (1 + position_or_len (precedes w) vs) 0) h.0

here : (w : Waiter) (ws : List Waiter) → IsOrdered ws → find (is_of w.task) ws ≡ Some w → Here w ws
here w [] ordered found = absurd (none-some w found)
here w (v ∷ vs) ordered found = go (is_of w.task v) refl found (here w vs ordered.1)
  where
    -- v isn't behind w
    one_more : precedes w v ≡ false → position_or_len (precedes w) (v ∷ vs) ≡ 1 + position_or_len (precedes w) vs
    one_more h = ap (λ b. cond (not b) (1 + position_or_len (precedes w) vs) 0) h

    go :
        (b : Bool)
        → is_of w.task v ≡ b
        → cond b (Some v) (find (is_of w.task) vs) ≡ Some w
        → (find (is_of w.task) vs ≡ Some w → Here w vs)
        → Here w (v ∷ vs)
    go true its is rest =
        let same : v ≡ w = same_Some v w is in
        let first = first_of_all w vs (subst (λ u. AllByRecursion (λ x. precedes u x ≡ true) vs) same ordered.0) in
        record {
          place = 0;
          next = one_more (ap (precedes w) same ∙ before_itself w) ∙ ap (λ n. 1 + n) first;
          out = cond-true _ _ _ its;
        }
    go false other is rest =
        let it : Here w vs = rest is in
        let first : precedes v w ≡ true = found_holds (is_of w.task) (λ u. precedes v u ≡ true) vs w is ordered.0 in
        record {
          place = suc it.place;
          next = one_more (before_not v w first) ∙ ap (λ n. 1 + n) (it.next ∙ omega arith);
          out = cond-false _ _ _ other ∙ ap (λ us. v ∷ us) it.out;
        }

pub own_place_some :
    (w : Waiter) (ws : List Waiter)
    → IsOrdered ws
    → find (is_of w.task) ws ≡ Some w
    → 1 ≤ position_or_len (precedes w) ws
own_place_some w ws ordered found = let it : Here w ws = here w ws ordered found in omega (arith, it.next)

pub own_place_out :
    (w : Waiter) (ws : List Waiter)
    → IsOrdered ws
    → find (is_of w.task) ws ≡ Some w
    → without w.task ws ≡ remove ws (position_or_len (precedes w) ws - 1)
own_place_out w ws ordered found =
    let it : Here w ws = here w ws ordered found in
    it.out ∙ ap (remove ws) (omega (arith, it.next))

pub found_some : (w : Waiter) (ws : List Waiter) → find (is_of w.task) ws ≡ Some w → 0 < length ws
found_some w [] found = absurd (none-some w found)
found_some w (v ∷ vs) found = omega arith

pub front_out :
    (t : ℕ) (ws : List Waiter) (d : Waiter)
    → 0 < length ws
    → is_of t (get_or ws 0 d) ≡ true
    → without t ws ≡ remove ws 0
front_out t [] d some its = absurd (omega arith)
front_out t (v ∷ vs) d some its = cond-true _ _ _ its

pub ruleset own_place = (own_place_some, own_place_out, found_some, front_out)

-- ---- one moved
-- its new place after it is removed: in front of its old one, or behind it
pub place_before :
    (p : Waiter → Bool) (ws : List Waiter) (from : ℕ)
    → position_or_len p (take from ws) < from
    → from < length ws
    → position_or_len p (remove ws from) ≡ position_or_len p (take from ws)
place_before p ws from less low = grind (arith, prefix_len-append, length-take)

pub place_behind :
    (p : Waiter → Bool) (ws : List Waiter) (from : ℕ)
    → from ≤ position_or_len p (take from ws)
    → from < length ws
    → position_or_len p (remove ws from) ≡ from + position_or_len p (between (from + 1) (length ws) ws)
place_behind p ws from all low = grind (arith, prefix_len-le-length, length-take-le, prefix_len-append, between_to_end)

pub ruleset among_others = (ordered_take, ordered_drop, place_before, place_behind)

-- moving all but the last one place back, and writing w in the first place, gives w and all but the last
pub to_front :
    (w : Waiter) (ws : List Waiter)
    → 0 < length ws
    → set (copy_within ws 0 (length ws - 1) 1) 0 w ≡ w ∷ take (length ws - 1) ws
to_front w ws some = same_lists _ _ (search (rules, places)) (λ k d h. grind (arith, places))

-- writing w over the last of ws, where us are in place of all the others, gives us and w
pub to_end :
    (w : Waiter) (ws us : List Waiter)
    → length us + 1 ≡ length ws
    → set (us ++ drop (length ws - 1) ws) (length ws - 1) w ≡ us ++ w ∷ []
to_end w ws us one = grind (arith, set_split, take_at, drop_all, length-append, length-drop)

-- taking the last out of the part from `to` to `from`, and putting w in front of the part, moves w from `from` to `to`
pub part_forward :
    (w : Waiter) (ws : List Waiter) (from to n : ℕ)
    → to < from
    → from < length ws
    → n ≡ from + 1 - to
    → take to ws ++ ((w ∷ take (length (take n (drop to ws)) - 1) (take n (drop to ws))) ++ drop n (drop to ws))
    ≡ insert (remove ws from) to w
part_forward w [] from to n before low is = absurd (omega arith)
part_forward w (v ∷ vs) zero to n before low is = absurd (omega arith)
part_forward w (v ∷ vs) (suc from) zero n before low is =
    let l : length (take n (v ∷ vs)) - 1 ≡ suc from = omega (arith, length-take-le n (v ∷ vs) (omega arith)) in
    let e : n ≡ suc (suc from) = omega arith in
    rw (l, take-take (suc from) n (v ∷ vs) (omega arith), e)
part_forward w (v ∷ vs) (suc from) (suc to) n before low is =
    ap (λ us. v ∷ us) (part_forward w vs from to n (omega arith) (omega arith) (omega arith))

-- taking the first out of the part from `from` to `to`, and putting w behind the part, moves w from `from` to `to`
pub part_back :
    (w : Waiter) (ws : List Waiter) (from to n : ℕ)
    → from < to
    → to < length ws
    → n ≡ to + 1 - from
    → take from ws ++ ((drop 1 (take n (drop from ws)) ++ w ∷ []) ++ drop n (drop from ws))
    ≡ insert (remove ws from) to w
part_back w [] from to n behind low is = absurd (omega arith)
part_back w (v ∷ vs) from zero n behind low is = absurd (omega arith)
part_back w (v ∷ vs) zero (suc to) n behind low is = let e : n ≡ suc (suc to) = omega arith in rw (e, append_assoc)
part_back w (v ∷ vs) (suc from) (suc to) n behind low is =
    ap (λ us. v ∷ us) (part_back w vs from to n (omega arith) (omega arith) (omega arith))

-- writing w over the waiter at a place takes that one out, and puts w in there
pub stayed : (w : Waiter) (ws : List Waiter) (i : ℕ) → i < length ws → set ws i w ≡ insert (remove ws i) i w
stayed w [] i low = absurd (omega arith)
stayed w (v ∷ vs) zero low = refl
stayed w (v ∷ vs) (suc i) low = ap (λ us. v ∷ us) (stayed w vs i (omega arith))

pub ruleset moved = (part_forward, part_back, stayed)

-- ---- one taken out
-- moving all behind a place one place to the front, and dropping the last place, takes out the waiter at the place
pub gap_closed :
    (ws us : List Waiter) (place n : ℕ)
    → place < length ws
    → n ≡ length ws - place
    → us ≡ drop 1 (take n (drop place ws)) ++ drop (length (take n (drop place ws)) - 1) (take n (drop place ws))
    → take (length ws - 1) (take place ws ++ (us ++ drop n (drop place ws))) ≡ remove ws place
gap_closed ws us place n low is moved =
    let behind : drop 1 (take n (drop place ws)) ≡ drop (suc place) ws =
    rw (is, take_rest ws place, drop-drop 1 place ws, add-one) in
    let len : length (take place ws ++ drop (suc place) ws) ≡ length ws - 1 = search (rules, places, arith) in
    rw (moved, behind) (simp append_assoc (rw (← append_assoc) (take_at _ _ _ len)))

pub ruleset closed = (gap_closed, with_items_is)

-- dropping the only one takes it out
pub last_out :
    (w : Waiter) (ws : List Waiter)
    → find (is_of w.task) ws ≡ Some w
    → length ws ≡ 1
    → take (length ws - 1) ws ≡ without w.task ws
last_out w [] found one = absurd (none-some w found)
last_out w (v ∷ u ∷ us) found one = absurd (omega arith)
last_out w (v ∷ []) found one = grind (arith, none-some)

pub ruleset only_out = (last_out, with_items_is)

-- ---- one put in
-- taking out the one that was put in at the end gives what was there before
pub added : (w : Waiter) (ws : List Waiter) → remove (ws ++ w ∷ []) (length ws) ≡ ws
added w ws = grind (arith, common_steps)

pub ruleset put = (insert_by_is, added, with_items_is)
