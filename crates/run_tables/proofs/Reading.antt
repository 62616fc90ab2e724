-- A channel and its table as code reads them by their numbers.
use Rattle.std.proofs.Common.{◌≡◌, ℕ, ◌<◌, length, get_or, sym, ap, ◌∙◌, Bool, Some}
use Rattle.std.specs.Prelude.{slice_get}
use Rattle.bits_ip.specs.Prefix.{Net}
use Rattle.attrs.specs.declared.judge.Verdict.{Verdict}
use Rattle.attrs.specs.declared.route.Route.{Route}
use Rattle.core_machine.specs.Machine.{State}
use Rattle.core_setup.specs.Protocols.{rules_of}
use Rattle.core_setup.specs.Setup.{Setup}
use Rattle.core_setup.proofs.PairLemmas.{get_here, get_one}
use Rattle.core_machine.specs.Channels.{is_open}
use Rattle.run_tables.specs.Channels.{IsSomeChannel, Reads, ReadsUp}
use Rattle.run_tables.specs.Routes.{AreRoutes}
use Rattle.run_tables.specs.declared.channel.Channel.{Channel}
use Rattle.run_tables.specs.declared.routes.Routes.{Routes}
use Rattle.run_tables.specs.declared.table.Table.{Table}
use Rattle.run_tables.proofs.Routing.{IsRead, item_read, read_of, table_there}

module _ {J : Type 0} (verdict : J → Net → Route → Verdict) (setup : Setup) (s : State) (r : Routes J) (c : ℕ) (are : AreRoutes verdict setup s r) (w : c < length r.channels.items) where
  -- read twice, it is the same one
  pub record IsFound (first held : Channel J) (table : Table) : Type 0 where
    pub there : slice_get r.channels.items c ≡ Some held
    pub same : first ≡ held
    pub read : IsRead verdict setup s c held table

  pub there_is : (held : Channel J) → held ≡ get_or r.channels.items c held → slice_get r.channels.items c ≡ Some held
  there_is held e = item_read r.channels.items c held w e

  pub found : (first held : Channel J) (table : Table) → first ≡ get_or r.channels.items c first → held ≡ get_or r.channels.items c held → table ≡ get_or r.tables.items first.table table
      → IsFound first held table
  found first held table ef eh et =
      let f = there_is first ef in
      let h = there_is held eh in
      let same : first ≡ held = get_one r.channels.items c first held f h in
      let t : slice_get r.tables.items held.table ≡ Some table =
      ap (λ (x : Channel J). slice_get r.tables.items x.table) (sym same) ∙ item_read r.tables.items first.table table (table_there verdict setup s r are c first f) et in
      record { there = h; same = same; read = read_of verdict setup s r are c held h table t }

  pub within_tables : (held : Channel J) → held ≡ get_or r.channels.items c held → held.table < length r.tables.items
  within_tables held e = table_there verdict setup s r are c held (there_is held e)

  pub found_one : (held : Channel J) → held ≡ get_or r.channels.items c held → (table : Table) × (slice_get r.channels.items c ≡ Some held) × IsRead verdict setup s c held table
  found_one held e =
      let there = there_is held e in
      let table = get_here r.tables.items held.table (table_there verdict setup s r are c held there) in
      (table.0, there, read_of verdict setup s r are c held there table.0 table.1)

  pub reads : (held : Channel J) (table : Table) → IsRead verdict setup s c held table → Reads verdict held table
  reads held table read = record {
    rules = rules_of setup;
    c = c;
    family = read.family;
    history = s.history held.table;
    ch = s.channels c;
    rules_are = are.rules_are;
    is = read.is;
    channel = read.channel;
  }

  pub reads_up : (held : Channel J) (table : Table) (up : Bool) → is_open (s.channels c) ≡ up → IsRead verdict setup s c held table → ReadsUp verdict held table up
  reads_up held table up is read = record {
    reads = record {
      rules = rules_of setup;
      c = c;
      family = read.family;
      history = s.history held.table;
      ch = s.channels c;
      rules_are = are.rules_are;
      is = read.is;
      channel = read.channel;
    };
    is_up = is;
  }

  pub some_up : (held : Channel J) (table : Table) (up : Bool) → is_open (s.channels c) ≡ up → IsRead verdict setup s c held table → IsSomeChannel verdict held up
  some_up held table up is read = record {
    rules = rules_of setup;
    c = c;
    family = read.family;
    history = s.history held.table;
    ch = s.channels c;
    is_up = is;
    channel = read.channel;
  }
