-- The world that a value of the code holds.
use Rattle.std.specs.Prelude.{ℕ, List, is_some, nat_eq}
use Rattle.std.specs.HashMap.{get}
use Rattle.pim_world.specs.declared.kernel.KernelEvents.{KernelEvents}
use Rattle.pim_world.specs.declared.world.World.{World}
use Rattle.pim_world.specs.Worlds as spec

abbrev pub kernel_of : KernelEvents → spec.Kernel
kernel_of k = record {
  runs = k.runs.items;
  cpu = k.cpus.items;
  off = k.off.items;
  on = λ cpu. get nat_eq k.on cpu;
}

abbrev pub world_of : World → spec.World
world_of w = record {
  thread = λ t. get nat_eq w.threads t;
  mutex = λ m. get nat_eq w.mutexes m;
  object = λ x. is_some (get nat_eq w.objects x);
  threads = w.thread_numbers.items;
  mutexes = w.mutex_numbers.items;
  state = w.waits;
  recursive = w.recursive.items;
  blocked = w.blocked.items;
  kernel = kernel_of w.kernel;
  clock = w.clock;
  has_ended = w.has_ended;
}

-- the threads that the last line may have touched
abbrev pub touched_of : World → List ℕ
touched_of w = w.touched.items
