-- What a line leaves as it is.
use Rattle.std.proofs.Common.{◌≡◌, ◌≢◌, ℕ, ◌+◌, ◌-◌, Bool, true, false, Option, Some, None, refl}
use Rattle.std.proofs.Common.{◌∙◌, ap, is_some, unwrap_or, if◌then◌else◌, nat_lt}
use Rattle.pim_base.specs.Lists.{nth}
use Rattle.pim_base.specs.State.{State, wait_of, owner_of, count_of, with_owner, with_count}
use Rattle.pim_base.specs.State.{with_wait, with_ceiling}
use Rattle.pim_base.proofs.Places.{nth-put_other}
use Rattle.pim_fact_lines.specs.declared.line.What.{What}
use Rattle.pim_fact_lines.specs.declared.line.What.TheVariants as whats
use Rattle.pim_fact_lines.specs.declared.line.Line.{Line}
use Rattle.pim_fact_lines.specs.declared.line.Line.TheVariants as lines
use Rattle.pim_waits.specs.Model.{wait_for}
use Rattle.pim_world.specs.Worlds.{World, blocked_at}
use Rattle.pim_world.proofs.Unknown.{nth-append_none}
use Rattle.pim_rows.specs.Found.{actor, locked_mutex, mutex_of}
use Rattle.pim_world.specs.After.{at, at_time, with_state, after, after_what, locked, unlocked}
use Rattle.pim_world.specs.declared.kernel.Off.TheVariants as offs
use Rattle.pim_world.specs.Standing.{off_of}
use Rattle.pim_rows.specs.OffTimes.{is_lost}

-- a state of either case has what both have
either :
    {A : Type 0} (f : State → A) (b : Bool) (S T : State) (x : A)
    → f S ≡ x
    → f T ≡ x
    → f (if b then S else T) ≡ x
either f true S T x s t = s
either f false S T x s t = t

-- ---- what a line changes of the state, at the place of its mutex

abbrev pub by_grant : ℕ → ℕ → World → World
by_grant t n w = with_state w (locked (with_wait w.state t None) t n)

abbrev pub by_take : ℕ → ℕ → World → World
by_take t n w = with_state w (locked w.state t n)

abbrev pub by_wait : ℕ → ℕ → World → World
by_wait t n w = with_state w (with_wait w.state t (Some (wait_for n)))

abbrev pub by_release : ℕ → World → World
by_release n w = with_state w (unlocked w.state n)

abbrev pub by_ceiling : ℕ → ℕ → World → World
by_ceiling level n w = with_state w (with_ceiling w.state n level)

-- ---- levels

pub base-locked : (S : State) (t m : ℕ) → (locked S t m).base ≡ S.base
base-locked S t m =
    either (λ S. S.base) (is_some (owner_of S m))
    (with_count S m (count_of S m + 1)) (with_owner S m (Some t)) S.base refl refl

pub base-unlocked : (S : State) (m : ℕ) → (unlocked S m).base ≡ S.base
base-unlocked S m =
    either (λ S. S.base) (nat_lt 1 (count_of S m))
    (with_count S m (count_of S m - 1)) (with_owner S m None) S.base refl refl

-- ---- waits

pub wait-locked : (S : State) (t m : ℕ) → (locked S t m).wait ≡ S.wait
wait-locked S t m =
    either (λ S. S.wait) (is_some (owner_of S m))
    (with_count S m (count_of S m + 1)) (with_owner S m (Some t)) S.wait refl refl

pub wait-unlocked : (S : State) (m : ℕ) → (unlocked S m).wait ≡ S.wait
wait-unlocked S m =
    either (λ S. S.wait) (nat_lt 1 (count_of S m))
    (with_count S m (count_of S m - 1)) (with_owner S m None) S.wait refl refl

-- what is done at the place of a mutex, if it is declared, keeps what both keep
pub at_kept :
    {A : Type 0} (f : World → A) (place : Option ℕ) (change : ℕ → World → World) (w : World)
    → ((n : ℕ) → f (change n w) ≡ f w)
    → f (at place change w) ≡ f w
at_kept f None change w h = refl
at_kept f (Some n) change w h = h n

pub wait-after_what :
    (what : What) (t u : ℕ) (w : World)
    → t ≢ u
    → wait_of (after_what what t w).state u ≡ wait_of w.state u
wait-after_what (whats.Granted m) t u w ne =
    at_kept (λ w. wait_of w.state u) (w.mutex m) (by_grant t) w
    (λ n. ap (λ xs. unwrap_or (nth xs u) None) (wait-locked (with_wait w.state t None) t n)
    ∙ ap (λ x. unwrap_or x None) (nth-put_other w.state.wait t u None ne))
wait-after_what (whats.Took m) t u w ne =
    at_kept (λ w. wait_of w.state u) (w.mutex m)
    (by_take t) w (λ n. ap (λ xs. unwrap_or (nth xs u) None) (wait-locked w.state t n))
wait-after_what (whats.Waits m) t u w ne =
    at_kept (λ w. wait_of w.state u) (w.mutex m) (by_wait t) w
    (λ n. ap (λ x. unwrap_or x None) (nth-put_other w.state.wait t u (Some (wait_for n)) ne))
wait-after_what (whats.GaveUp m) t u w ne =
    ap (λ x. unwrap_or x None) (nth-put_other w.state.wait t u None ne)
wait-after_what (whats.Released m) t u w ne =
    at_kept (λ w. wait_of w.state u) (w.mutex m) by_release w
    (λ n. ap (λ xs. unwrap_or (nth xs u) None) (wait-unlocked w.state n))
wait-after_what (whats.Priority level) t u w ne = refl
wait-after_what (whats.Ceiling m level) t u w ne =
    at_kept (λ w. wait_of w.state u) (w.mutex m) (by_ceiling level) w (λ n. refl)
wait-after_what (whats.Blocks x) t u w ne = refl
wait-after_what (whats.Resumes x ended) t u w ne = refl
wait-after_what (whats.Runs level) t u w ne = refl
wait-after_what (whats.On cpu) t u w ne = refl
wait-after_what whats.OffReady t u w ne = refl
wait-after_what whats.OffAsleep t u w ne = refl

-- ---- waits at objects

pub blocked-after_what :
    (what : What) (t u : ℕ) (w : World)
    → t ≢ u
    → blocked_at (after_what what t w) u ≡ blocked_at w u
blocked-after_what (whats.Granted m) t u w ne =
    at_kept (λ w. blocked_at w u) (w.mutex m) (by_grant t) w (λ n. refl)
blocked-after_what (whats.Took m) t u w ne =
    at_kept (λ w. blocked_at w u) (w.mutex m) (by_take t) w (λ n. refl)
blocked-after_what (whats.Waits m) t u w ne =
    at_kept (λ w. blocked_at w u) (w.mutex m) (by_wait t) w (λ n. refl)
blocked-after_what (whats.GaveUp m) t u w ne = refl
blocked-after_what (whats.Released m) t u w ne =
    at_kept (λ w. blocked_at w u) (w.mutex m) by_release w (λ n. refl)
blocked-after_what (whats.Priority level) t u w ne = refl
blocked-after_what (whats.Ceiling m level) t u w ne =
    at_kept (λ w. blocked_at w u) (w.mutex m) (by_ceiling level) w (λ n. refl)
blocked-after_what (whats.Blocks x) t u w ne =
    ap (λ x. unwrap_or x None) (nth-put_other w.blocked t u (Some x) ne)
blocked-after_what (whats.Resumes x ended) t u w ne =
    ap (λ x. unwrap_or x None) (nth-put_other w.blocked t u None ne)
blocked-after_what (whats.Runs level) t u w ne = refl
blocked-after_what (whats.On cpu) t u w ne = refl
blocked-after_what whats.OffReady t u w ne = refl
blocked-after_what whats.OffAsleep t u w ne = refl

-- ---- threads off a CPU

pub off-after_what :
    (what : What) (t u : ℕ) (w : World)
    → t ≢ u
    → off_of (after_what what t w).kernel u ≡ off_of w.kernel u
off-after_what (whats.Granted m) t u w ne =
    at_kept (λ w. off_of w.kernel u) (w.mutex m) (by_grant t) w (λ n. refl)
off-after_what (whats.Took m) t u w ne =
    at_kept (λ w. off_of w.kernel u) (w.mutex m) (by_take t) w (λ n. refl)
off-after_what (whats.Waits m) t u w ne =
    at_kept (λ w. off_of w.kernel u) (w.mutex m) (by_wait t) w (λ n. refl)
off-after_what (whats.GaveUp m) t u w ne = refl
off-after_what (whats.Released m) t u w ne =
    at_kept (λ w. off_of w.kernel u) (w.mutex m) by_release w (λ n. refl)
off-after_what (whats.Priority level) t u w ne = refl
off-after_what (whats.Ceiling m level) t u w ne =
    at_kept (λ w. off_of w.kernel u) (w.mutex m) (by_ceiling level) w (λ n. refl)
off-after_what (whats.Blocks x) t u w ne = refl
off-after_what (whats.Resumes x ended) t u w ne = refl
off-after_what (whats.Runs level) t u w ne = refl
off-after_what (whats.On cpu) t u w ne =
    ap (λ x. unwrap_or x None) (nth-put_other w.kernel.off t u None ne)
off-after_what whats.OffReady t u w ne =
    ap (λ x. unwrap_or x None) (nth-put_other w.kernel.off t u (Some offs.Ready) ne)
off-after_what whats.OffAsleep t u w ne =
    ap (λ x. unwrap_or x None) (nth-put_other w.kernel.off t u (Some offs.Asleep) ne)

-- ---- owners

owner-locked : (S : State) (t m u : ℕ) → m ≢ u → owner_of (locked S t m) u ≡ owner_of S u
owner-locked S t m u ne =
    either (λ S. owner_of S u)
    (is_some (owner_of S m)) (with_count S m (count_of S m + 1)) (with_owner S m (Some t))
    (owner_of S u) refl (ap (λ x. unwrap_or x None) (nth-put_other S.owner m u (Some t) ne))

owner-unlocked : (S : State) (m u : ℕ) → m ≢ u → owner_of (unlocked S m) u ≡ owner_of S u
owner-unlocked S m u ne =
    either (λ S. owner_of S u)
    (nat_lt 1 (count_of S m)) (with_count S m (count_of S m - 1)) (with_owner S m None)
    (owner_of S u) refl (ap (λ x. unwrap_or x None) (nth-put_other S.owner m u None ne))

at_kept_but :
    {A : Type 0} (f : World → A) (place : Option ℕ) (change : ℕ → World → World) (w : World) (u : ℕ)
    → ((n : ℕ) → n ≢ u → f (change n w) ≡ f w)
    → ((n : ℕ) → place ≡ Some n → n ≢ u)
    → f (at place change w) ≡ f w
at_kept_but f None change w u h ne = refl
at_kept_but f (Some n) change w u h ne = h n (ne n refl)

pub owner-after_what :
    (what : What) (t u : ℕ) (w : World)
    → ((n : ℕ) → locked_mutex w what ≡ Some n → n ≢ u)
    → owner_of (after_what what t w).state u ≡ owner_of w.state u
owner-after_what (whats.Granted m) t u w ne =
    at_kept_but (λ w. owner_of w.state u)
    (w.mutex m) (by_grant t) w u (λ n ne. owner-locked (with_wait w.state t None) t n u ne) ne
owner-after_what (whats.Took m) t u w ne =
    at_kept_but (λ w. owner_of w.state u)
    (w.mutex m) (by_take t) w u (λ n ne. owner-locked w.state t n u ne) ne
owner-after_what (whats.Waits m) t u w ne =
    at_kept (λ w. owner_of w.state u) (w.mutex m) (by_wait t) w (λ n. refl)
owner-after_what (whats.GaveUp m) t u w ne = refl
owner-after_what (whats.Released m) t u w ne =
    at_kept_but (λ w. owner_of w.state u)
    (w.mutex m) by_release w u (λ n ne. owner-unlocked w.state n u ne) ne
owner-after_what (whats.Priority level) t u w ne = refl
owner-after_what (whats.Ceiling m level) t u w ne =
    at_kept (λ w. owner_of w.state u) (w.mutex m) (by_ceiling level) w (λ n. refl)
owner-after_what (whats.Blocks x) t u w ne = refl
owner-after_what (whats.Resumes x ended) t u w ne = refl
owner-after_what (whats.Runs level) t u w ne = refl
owner-after_what (whats.On cpu) t u w ne = refl
owner-after_what whats.OffReady t u w ne = refl
owner-after_what whats.OffAsleep t u w ne = refl

-- ---- lines

-- what a fact keeps of whatever isn't its thread's
pub fact_kept :
    {A : Type 0} (f : World → A) (place : Option ℕ) (what : What) (time : ℕ) (w : World)
    → ((t : ℕ) → place ≡ Some t → f (after_what what t (at_time time w)) ≡ f w)
    → f (at_time time w) ≡ f w
    → f (at place (after_what what) (at_time time w)) ≡ f w
fact_kept f None what time w h same = same
fact_kept f (Some t) what time w h same = h t refl

pub wait-after :
    (line : Line) (u : ℕ) (w : World)
    → ((t : ℕ) → actor w line ≡ Some t → t ≢ u)
    → wait_of (after w line).state u ≡ wait_of w.state u
wait-after (lines.Thread t level) u w ne = nth-append_none w.state.wait u
wait-after (lines.Mutex m is_recursive protocol) u w ne = refl
wait-after (lines.Object x) u w ne = refl
wait-after lines.Unseen u w ne = refl
wait-after (lines.Fact time t what) u w ne =
    fact_kept (λ w. wait_of w.state u)
    (w.thread t) what time w (λ p e. wait-after_what what p u (at_time time w) (ne p e)) refl
wait-after (lines.Lost time) u w ne = refl
wait-after (lines.End time) u w ne = refl

pub blocked-after :
    (line : Line) (u : ℕ) (w : World)
    → ((t : ℕ) → actor w line ≡ Some t → t ≢ u)
    → blocked_at (after w line) u ≡ blocked_at w u
blocked-after (lines.Thread t level) u w ne = nth-append_none w.blocked u
blocked-after (lines.Mutex m is_recursive protocol) u w ne = refl
blocked-after (lines.Object x) u w ne = refl
blocked-after lines.Unseen u w ne = refl
blocked-after (lines.Fact time t what) u w ne =
    fact_kept (λ w. blocked_at w u)
    (w.thread t) what time w (λ p e. blocked-after_what what p u (at_time time w) (ne p e)) refl
blocked-after (lines.Lost time) u w ne = refl
blocked-after (lines.End time) u w ne = refl

pub owner-after :
    (line : Line) (u : ℕ) (w : World)
    → ((n : ℕ) → mutex_of w line ≡ Some n → n ≢ u)
    → owner_of (after w line).state u ≡ owner_of w.state u
owner-after (lines.Thread t level) u w ne = refl
owner-after (lines.Mutex m is_recursive protocol) u w ne = nth-append_none w.state.owner u
owner-after (lines.Object x) u w ne = refl
owner-after lines.Unseen u w ne = refl
owner-after (lines.Fact time t what) u w ne =
    fact_kept (λ w. owner_of w.state u) (w.thread t) what time w
    (λ p e. owner-after_what what p u (at_time time w) (λ n h. ne n (rw e h))) refl
owner-after (lines.Lost time) u w ne = refl
owner-after (lines.End time) u w ne = refl

pub off-after :
    (line : Line) (u : ℕ) (w : World)
    → is_lost line ≡ false
    → ((t : ℕ) → actor w line ≡ Some t → t ≢ u)
    → off_of (after w line).kernel u ≡ off_of w.kernel u
off-after (lines.Thread t level) u w known ne = nth-append_none w.kernel.off u
off-after (lines.Mutex m is_recursive protocol) u w known ne = refl
off-after (lines.Object x) u w known ne = refl
off-after lines.Unseen u w known ne = refl
off-after (lines.Fact time t what) u w known ne =
    fact_kept (λ w. off_of w.kernel u)
    (w.thread t) what time w (λ p e. off-after_what what p u (at_time time w) (ne p e)) refl
off-after (lines.Lost time) u w known ne = absurd (let e : true ≡ false = known in cc)
off-after (lines.End time) u w known ne = refl
