-- What the objects in memory hold.
use Rattle.std.specs.{Prelude.{ℕ, List, drop}, BTreeMap.get_by_text}
use Rattle.bridge_io.specs.Outside.{Files}
use Rattle.bridge_ends.specs.{declared.schedule.Schedule.Schedule, declared.mem_source.MemSource.MemSource}
use Rattle.bridge_ends.specs.{declared.mem_sink.MemSink.MemSink, declared.mem_store.MemStore.MemStore}

-- the unread bytes of a source
abbrev pub left_in : MemSource → List ℕ
left_in source = drop source.at source.bytes

-- a source's calls of `read`
abbrev pub reads_from : MemSource → Schedule
reads_from source = source.schedule

-- the bytes written to a sink
abbrev pub written_to : MemSink → List ℕ
written_to sink = sink.written.items

-- a sink's calls of `write`
abbrev pub writes_to : MemSink → Schedule
writes_to sink = sink.schedule

-- a store's files
abbrev pub files_in : MemStore → Files
files_in store name = get_by_text store.files name

-- a store's calls of `has` and `read_at`
abbrev pub reads_in : MemStore → Schedule
reads_in store = store.reads

-- a store's calls of `create`, `append` and `put_in_place`
abbrev pub writes_in : MemStore → Schedule
writes_in store = store.writes
