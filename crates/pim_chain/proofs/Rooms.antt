-- The room of the queues: how many have it, and why one can always lend its own.
use Rattle.std.proofs.Common.{◌≡◌, ℕ, zero, suc, ◌<◌, ◌≤◌, ◌+◌, ◌*◌, true, false, cond, ltb, inl, inr, refl, sym, ◌∙◌, ap, arith, List, [], ◌∷◌, ◌++◌, ◌-◌, length, get_or, set, map, replicate}
use Rattle.std.specs.List.{AllByRecursion}
use Rattle.std.specs.Option.{option_map}
use Rattle.std.proofs.lemmas.Bool.{cases_lt}
use Rattle.std.proofs.lemmas.Bool.Decides.{nat_tests}
use Rattle.std.proofs.lemmas.List.{set-set, set-get_or, set_comm, map-set, get_or-map, length-set, get_or-set_same, get_or-set_other, get_or_default, length-map, length-append, map-append, get_or-drop, length-drop, replicate-append-replicate}
use Rattle.std.proofs.lemmas.Nat.{mul-le}
use Rattle.pim_base.specs.Lists.{nth, put}
use Rattle.pim_base.specs.declared.steps.Waiter.{Waiter}
use Rattle.pim_queue.specs.QueueView.{QueueView, with_waiters}
use Rattle.pim_chain.specs.Rooms.{total, with_room, IsRoomy, can_lend, each_with}
use Rattle.pim_chain.specs.Views.{view_in, queue_in, put_queue}

-- ---- counts
-- 1 if the queue has room for n waiters, else 0
abbrev one : ℕ → QueueView → ℕ
one n q = cond (ltb q.room n) 0 1

pub with_room-le : (n : ℕ) (qs : List QueueView) → with_room n qs ≤ length qs
with_room-le n [] = omega arith
with_room-le n (q ∷ qs) = grind (arith, nat_tests, with_room-le n qs)

with_room-append : (n : ℕ) (qs : List QueueView) (q : QueueView) → with_room n (qs ++ q ∷ []) ≡ with_room n qs + one n q
with_room-append n [] q = omega arith
with_room-append n (p ∷ qs) q = omega (arith, with_room-append n qs q)

with_room-set :
    (n i : ℕ) (qs : List QueueView) (p d : QueueView)
    → i < length qs
    → with_room n (set qs i p) + one n (get_or qs i d) ≡ with_room n qs + one n p
with_room-set n i [] p d low = absurd (omega arith)
with_room-set n zero (q ∷ qs) p d low = omega arith
with_room-set n (suc i) (q ∷ qs) p d low = omega (arith, with_room-set n i qs p d (omega arith))

pub with_room_kept :
    (n i : ℕ) (qs : List QueueView) (q d : QueueView)
    → i < length qs
    → q.room ≡ (get_or qs i d).room
    → with_room n (set qs i q) ≡ with_room n qs
with_room_kept n i qs q d low same =
    let ones : one n q ≡ one n (get_or qs i d) = ap (λ r. cond (ltb r n) 0 1) same in
    omega (arith, with_room-set n i qs q d low, ones)

pub total-each_with : (room : ℕ) (qs : List QueueView) → total (each_with room qs) ≡ total qs
total-each_with room [] = refl
total-each_with room (q ∷ qs) = omega (arith, total-each_with room qs)

-- ---- a queue is added
pub roomy_append :
    (tasks : ℕ) (qs : List QueueView) (q : QueueView)
    → IsRoomy tasks qs
    → tasks < (q.room + 1) * (length qs + 1)
    → IsRoomy tasks (qs ++ q ∷ [])
roomy_append tasks qs q roomy enough n short = elim (cases_lt q.room n) [ inl less ↦ small less | inr most ↦ large most ]
  where
    all_have : q.room < n → length qs ≤ with_room n qs → tasks < (with_room n qs + 1) * n
    all_have less all =
        let same : with_room n qs ≡ length qs = omega (arith, with_room-le n qs) in
        let most : (q.room + 1) * (length qs + 1) ≤ n * (length qs + 1) = mul-le (q.room + 1) (length qs + 1) n (length qs + 1) (omega arith) (omega arith) in
        rw same (omega (arith, most, enough))

    small : q.room < n → tasks < (with_room n (qs ++ q ∷ []) + 1) * n
    small less =
        let none : one n q ≡ 0 = grind (arith, nat_tests) in
        rw (with_room-append n qs q, none) (elim (cases_lt (with_room n qs) (length qs)) [ inl fewer ↦ omega (arith, roomy n fewer) | inr all ↦ omega (arith, all_have less all) ])

    large : n ≤ q.room → tasks < (with_room n (qs ++ q ∷ []) + 1) * n
    large most =
        let some : one n q ≡ 1 = grind (arith, nat_tests) in
        let fewer : with_room n qs < length qs = omega (arith, short, with_room-append n qs q, some, length-append qs (q ∷ [])) in
        let more : (with_room n qs + 1) * n ≤ (with_room n qs + 1 + 1) * n = mul-le (with_room n qs + 1) n (with_room n qs + 1 + 1) n (omega arith) (omega arith) in
        rw (with_room-append n qs q, some) (omega (arith, more, roomy n fewer))

-- ---- one can lend its room
-- a queue that can't lend has as many waiters as it would have room for
share : (few : ℕ) (q : QueueView) → can_lend few q ≡ false → one (few + 1) q * (few + 1) ≤ length q.waiters
share few q h = grind (arith, nat_tests)

shares : (few : ℕ) (qs : List QueueView) → AllByRecursion (λ q. can_lend few q ≡ false) qs → with_room (few + 1) qs * (few + 1) ≤ total qs
shares few [] h = omega arith
shares few (q ∷ qs) h = omega (arith, share few q h.0, shares few qs h.1)

crowded_front :
    (few : ℕ) (q : QueueView) (qs : List QueueView)
    → q.room ≡ few
    → AllByRecursion (λ p. can_lend few p ≡ false) qs
    → with_room (few + 1) (q ∷ qs) * (few + 1) + length q.waiters ≤ total (q ∷ qs)
crowded_front few q qs is h =
    let e : with_room (few + 1) (q ∷ qs) ≡ with_room (few + 1) qs = grind (arith, nat_tests) in rw e (omega (arith, shares few qs h))

crowded_behind :
    (few x : ℕ) (q : QueueView) (qs : List QueueView)
    → can_lend few q ≡ false
    → with_room (few + 1) qs * (few + 1) + x ≤ total qs
    → with_room (few + 1) (q ∷ qs) * (few + 1) + x ≤ total (q ∷ qs)
crowded_behind few x q qs h rest = omega (arith, share few q h, rest)

crowded :
    (few i : ℕ) (qs : List QueueView) (d : QueueView)
    → i < length qs
    → (get_or qs i d).room ≡ few
    → AllByRecursion (λ q. can_lend few q ≡ false) qs
    → with_room (few + 1) qs * (few + 1) + length (get_or qs i d).waiters ≤ total qs
crowded few i [] d low is h = absurd (omega arith)
crowded few zero (q ∷ qs) d low is h = crowded_front few q qs is h.1
crowded few (suc i) (q ∷ qs) d low is h = crowded_behind few _ q qs h.0 (crowded few i qs d (omega arith) is h.1)

lacks_room : (n i : ℕ) (qs : List QueueView) (d : QueueView) → i < length qs → (get_or qs i d).room < n → with_room n qs < length qs
lacks_room n i [] d low less = absurd (omega arith)
lacks_room n zero (q ∷ qs) d low less = grind (arith, nat_tests, with_room-le n qs)
lacks_room n (suc i) (q ∷ qs) d low less = grind (arith, nat_tests, lacks_room n i qs d)

-- else more tasks would wait than there are
pub one_lends :
    (few i : ℕ) (qs : List QueueView) (d : QueueView)
    → i < length qs
    → (get_or qs i d).room ≡ few
    → length (get_or qs i d).waiters ≡ few
    → IsRoomy (total qs + 1) qs
    → AllByRecursion (λ q. can_lend few q ≡ false) qs
    → ⊥
one_lends few i qs d low room full roomy h =
    let short = lacks_room (few + 1) i qs d low (omega (arith, room)) in
    omega (arith, crowded few i qs d low room h, full, roomy (few + 1) short)

-- ---- the view
slice_at : (room i : ℕ) (qs : List QueueView) (d : QueueView) → i < length qs → view_in (each_with room qs) (suc i) ≡ record (get_or qs i d) { room = room }
slice_at room i [] d low = absurd (omega arith)
slice_at room zero (q ∷ qs) d low = refl
slice_at room (suc i) (q ∷ qs) d low = slice_at room i qs d (omega arith)

pub view_at :
    (room m : ℕ) (qs : List QueueView) (d : QueueView)
    → 1 ≤ m
    → m ≤ length qs
    → view_in (each_with room qs) m ≡ record (get_or qs (m - 1) d) { room = room }
view_at room zero qs d low high = absurd (omega arith)
view_at room (suc i) qs d low high = let e : suc i - 1 ≡ i = omega arith in rw e (slice_at room i qs d (omega arith))

pub queue_at_place :
    (room m : ℕ) (qs : List QueueView) (d : QueueView)
    → 1 ≤ m
    → m ≤ length qs
    → queue_in (each_with room qs) m ≡ (get_or qs (m - 1) d).waiters
queue_at_place room m qs d low high = ap (λ (q : QueueView). q.waiters) (view_at room m qs d low high)

pub put_at :
    (room m : ℕ) (qs : List QueueView) (q d : QueueView) (ws : List Waiter)
    → 1 ≤ m
    → m ≤ length qs
    → q.waiters ≡ ws
    → each_with room (set qs (m - 1) q) ≡ put_queue (each_with room qs) m ws
put_at room zero qs q d ws low high is = absurd (omega arith)
put_at room (suc i) qs q d ws low high is =
    let e : suc i - 1 ≡ i = omega arith in
    rw e
    (map-set (λ (p : QueueView). record p { room = room }) qs i q
    ∙ ap (λ us. set (each_with room qs) i (record { waiters = us; room = room })) is
    ∙ ap (λ (p : QueueView). set (each_with room qs) i (with_waiters p ws)) (sym (slice_at room i qs d (omega arith))))

pub roomy_put :
    (tasks i : ℕ) (qs : List QueueView) (q d : QueueView)
    → i < length qs
    → q.room ≡ (get_or qs i d).room
    → IsRoomy tasks qs
    → IsRoomy tasks (set qs i q)
roomy_put tasks i qs q d low same roomy n short =
    let kept = with_room_kept n i qs q d low same in
    rw kept (roomy n (omega (arith, short, kept, length-set qs i q)))

known_place : (v : List QueueView) (room m : ℕ) (qs : List QueueView) → each_with room qs ≡ v → m ≤ length v → m ≤ length qs
known_place v room m qs is high = omega (arith, high, ap length (sym is), length-map qs (λ (p : QueueView). record p { room = room }))

-- there is room for all that wait and one more
pub roomy_for :
    (v : List QueueView) (room m : ℕ) (qs : List QueueView)
    → each_with room qs ≡ v
    → 1 ≤ m
    → m ≤ length v
    → total v < (view_in v m).room
    → IsRoomy room qs
    → IsRoomy (total qs + 1) qs
roomy_for v room m qs is low high fits roomy n short = omega (arith, roomy n short, fits, all, its)
  where
    all : total v ≡ total qs
    all = ap total (sym is) ∙ total-each_with room qs

    its : (view_in v m).room ≡ room
    its =
        ap (λ vs. (view_in vs m).room) (sym is)
        ∙ ap (λ (q : QueueView). q.room) (view_at room m qs (record { waiters = []; room = 0 }) low (known_place v room m qs is high))

pub roomy_same :
    (tasks : ℕ) (qs ps : List QueueView)
    → ((n : ℕ) → with_room n ps ≡ with_room n qs)
    → length ps ≡ length qs
    → IsRoomy tasks qs
    → IsRoomy tasks ps
roomy_same tasks qs ps same len roomy n short = rw (same n) (roomy n (rw (← same n, ← len) short))

-- ---- two queues exchange their room, by way of a spare one
pub with_room_exchanged :
    (n i j : ℕ) (qs : List QueueView) (s p q d : QueueView)
    → i < length qs
    → j < length qs
    → (i ≡ j → ⊥)
    → p.room ≡ (get_or qs i d).room
    → q.room ≡ (get_or qs j d).room
    → with_room n (set (set (set qs i s) j p) i q) ≡ with_room n qs
with_room_exchanged n i j qs s p q d low_i low_j apart is_p is_q =
    let ones_p : one n p ≡ one n (get_or qs i d) = ap (λ r. cond (ltb r n) 0 1) is_p in
    let ones_q : one n q ≡ one n (get_or qs j d) = ap (λ r. cond (ltb r n) 0 1) is_q in
    let lent : get_or (set qs i s) j d ≡ get_or qs j d = get_or-set_other qs i j s d (λ e. apart (sym e)) in
    let spare : get_or (set (set qs i s) j p) i d ≡ s = get_or-set_other (set qs i s) j i p d apart ∙ get_or-set_same qs i s d low_i in
    let first = with_room-set n i qs s d low_i in
    let next = with_room-set n j (set qs i s) p d (rw (length-set qs i s) low_j) in
    let last = with_room-set n i (set (set qs i s) j p) q d (rw (length-set (set qs i s) j p, length-set qs i s) low_i) in
    omega (arith, first, rw lent at next, rw spare at last, ones_p, ones_q)

pub each_with_exchanged :
    (room i j : ℕ) (qs : List QueueView) (s p q d : QueueView)
    → i < length qs
    → j < length qs
    → (i ≡ j → ⊥)
    → p.waiters ≡ (get_or qs j d).waiters
    → q.waiters ≡ (get_or qs i d).waiters
    → each_with room (set (set (set qs i s) j p) i q) ≡ each_with room qs
each_with_exchanged room i j qs s p q d low_i low_j apart is_p is_q =
    let same_q : f q ≡ f (get_or qs i d) = ap (λ ws. record { waiters = ws; room = room }) is_q in
    let same_p : f p ≡ f (get_or qs j d) = ap (λ ws. record { waiters = ws; room = room }) is_p in
    ap (each_with room) (set_comm (set qs i s) j i p q (λ e. apart (sym e)) ∙ ap (λ l. set l j p) (set-set qs i s q))
    ∙ map-set f (set qs i q) j p
    ∙ ap (λ l. set l j (f p)) (map-set f qs i q)
    ∙ ap (λ x. set (set (each_with room qs) i x) j (f p)) (same_q ∙ at i low_i)
    ∙ ap (λ l. set l j (f p)) (set-get_or (each_with room qs) i (f d))
    ∙ ap (λ x. set (each_with room qs) j x) (same_p ∙ at j low_j)
    ∙ set-get_or (each_with room qs) j (f d)
  where
    f : QueueView → QueueView
    f p = record p { room = room }

    at : (k : ℕ) → k < length qs → f (get_or qs k d) ≡ get_or (each_with room qs) k (f d)
    at k low = sym (get_or-map f qs k d (f d) low)

pub lends : (few : ℕ) (q : QueueView) → can_lend few q ≡ true → (few < q.room) × (length q.waiters ≤ few)
lends few q h = grind (arith, nat_tests)

-- no queue lends its room to itself
pub apart_from :
    (few i j : ℕ) (qs : List QueueView) (l p : QueueView)
    → l ≡ get_or qs i l
    → p ≡ get_or qs j p
    → i < length qs
    → can_lend few l ≡ true
    → p.room ≡ few
    → i ≡ j
    → ⊥
apart_from few i j qs l p here_l here_p low lent room same =
    let e : l ≡ p = here_l ∙ get_or_default qs i l p low ∙ ap (λ k. get_or qs k p) same ∙ sym here_p in
    omega (arith, (lends few l lent).0, room, ap (λ (q : QueueView). q.room) e)

-- the one that gets the room has some left
pub freed :
    (few i j : ℕ) (qs : List QueueView) (s l p q d : QueueView)
    → j < length qs
    → (i ≡ j → ⊥)
    → can_lend few l ≡ true
    → p.room ≡ l.room
    → length p.waiters ≡ few
    → length (get_or (set (set (set qs i s) j p) i q) j d).waiters < (get_or (set (set (set qs i s) j p) i q) j d).room
freed few i j qs s l p q d low apart lent room full =
    let is : get_or (set (set (set qs i s) j p) i q) j d ≡ p =
    get_or-set_other (set (set qs i s) j p) i j q d (λ e. apart (sym e)) ∙ get_or-set_same (set qs i s) j p d (rw (length-set qs i s) low) in
    rw is (omega (arith, (lends few l lent).0, room, full))

pub nth_shown :
    (room m : ℕ) (qs : List QueueView)
    → option_map (λ (q : QueueView). q.waiters) (nth (each_with room qs) m) ≡ option_map (λ (q : QueueView). q.waiters) (nth qs m)
nth_shown room zero qs = refl
nth_shown room (suc i) [] = refl
nth_shown room (suc zero) (q ∷ qs) = refl
nth_shown room (suc (suc i)) (q ∷ qs) = nth_shown room (suc i) qs

-- ---- by number, as the calls have them
pub queue_here :
    (v : List QueueView) (room m i : ℕ) (qs : List QueueView) (q : QueueView)
    → each_with room qs ≡ v
    → 1 ≤ m
    → m ≤ length v
    → i ≡ m
    → q ≡ get_or qs (i - 1) q
    → queue_in v m ≡ q.waiters
queue_here v room m i qs q is low high same here =
    ap (λ vs. queue_in vs m) (sym is)
    ∙ queue_at_place room m qs q low (known_place v room m qs is high)
    ∙ ap (λ k. (get_or qs (k - 1) q).waiters) (sym same)
    ∙ ap (λ (p : QueueView). p.waiters) (sym here)

pub put_here :
    (v : List QueueView) (room m i : ℕ) (qs : List QueueView) (p : QueueView) (ws : List Waiter)
    → each_with room qs ≡ v
    → 1 ≤ m
    → m ≤ length v
    → i ≡ m
    → p.waiters ≡ ws
    → each_with room (set qs (i - 1) p) ≡ put_queue v m ws
put_here v room m i qs p ws is low high same new =
    ap (λ k. each_with room (set qs (k - 1) p)) same
    ∙ put_at room m qs p p ws low (known_place v room m qs is high) new
    ∙ ap (λ vs. put_queue vs m ws) is

pub roomy_here :
    (v : List QueueView) (room m i : ℕ) (qs : List QueueView) (q p : QueueView)
    → each_with room qs ≡ v
    → 1 ≤ m
    → m ≤ length v
    → i ≡ m
    → q ≡ get_or qs (i - 1) q
    → p.room ≡ q.room
    → IsRoomy room qs
    → IsRoomy room (set qs (i - 1) p)
roomy_here v room m i qs q p is low high same here kept roomy =
    roomy_put room (i - 1) qs p q (omega (arith, low, same, known_place v room m qs is high)) (kept ∙ ap (λ (u : QueueView). u.room) here) roomy

-- ---- new queues
pub made_append :
    (room n : ℕ) (qs : List QueueView) (q : QueueView)
    → each_with room qs ≡ replicate n (record { waiters = []; room = room })
    → q.waiters ≡ []
    → each_with room (qs ++ q ∷ []) ≡ replicate (n + 1) (record { waiters = []; room = room })
made_append room n qs q is empty =
    map-append f qs (q ∷ [])
    ∙ ap (λ l. l ++ f q ∷ []) is
    ∙ ap (λ ws. replicate n (f (record { waiters = []; room = room })) ++ record { waiters = ws; room = room } ∷ []) empty
    ∙ replicate-append-replicate n 1 (record { waiters = []; room = room })
  where
    f : QueueView → QueueView
    f p = record p { room = room }

pub ruleset lending = (one_lends, get_or-drop, length-drop)
