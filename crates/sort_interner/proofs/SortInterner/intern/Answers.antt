-- The row is found, as the scan would find it, there is no room, or it is appended and entered. Assumes nothing.
use Rattle.sort_interner.proofs.Interned as law
use Rattle.sort_interner.proofs.SortInterner.intern.Goals as goal
use Rattle.sort_interner.proofs.SortInterner.intern.Goals.{then-sorts-ge-SORT_NUMBERS-via-then-sorts-ge-SORT_NUMBERS, then-sorts-ge-SORT_NUMBERS-via-else-sorts-ge-SORT_NUMBERS+then-entries-row-gt-MAX_ENTRIES}

pub returns-in-Some-clause-interned : goal.returns-in-Some-clause-interned
returns-in-Some-clause-interned c =
    let r = c.args.row.now in
    law.interned_found r.kind r.part r.args.now c.args.self.now.words.now c.args.self.now.counts c.requires.fine.0 _ c.requires.indexed _ c.find_row.ensures _ c.in-Some.is

pub returns-then-sorts-ge-SORT_NUMBERS-clause-interned : goal.returns-then-sorts-ge-SORT_NUMBERS-clause-interned
returns-then-sorts-ge-SORT_NUMBERS-clause-interned c =
    let r = c.args.row.now in
    let s = c.args.self.now in
    elim c.then-sorts-ge-SORT_NUMBERS.branch [
      | then-sorts-ge-SORT_NUMBERS-via-then-sorts-ge-SORT_NUMBERS w ↦
          law.no_room_for_rows r.kind r.part r.args.now s.words.now s.counts c.requires.fine.0 _ c.requires.indexed _ c.find_row.ensures c.in_default.is
          w.if-sorts-ge-SORT_NUMBERS.true
      | then-sorts-ge-SORT_NUMBERS-via-else-sorts-ge-SORT_NUMBERS+then-entries-row-gt-MAX_ENTRIES w ↦
          law.no_room_for_entries r.kind r.part r.args.now s.words.now s.counts c.requires.fine.0 _ c.requires.indexed _ c.find_row.ensures c.in_default.is
          w.if-sorts-ge-SORT_NUMBERS.false w.if-entries-row-gt-MAX_ENTRIES.true
    ]

pub returns-clause-interned : goal.returns-clause-interned
returns-clause-interned c =
    let r = c.args.row.now in
    let s = c.args.self.now in
    law.interned_new r.kind r.part r.args.now s.words.now s.counts c.requires.fine.0 _ c.requires.indexed _ c.find_row.ensures c.in_default.is
    c.if-sorts-ge-SORT_NUMBERS.false c.if-entries-row-gt-MAX_ENTRIES.false _ c.append_row.ensures.words _ c.append_row.ensures.counts _
    c.append_row.ensures.number

pub returns-clause-indexed : goal.returns-clause-indexed
returns-clause-indexed c =
    let r = c.args.row.now in
    law.indexed_new r.kind r.part r.args.now c.args.self.now.words.now c.args.self.now.counts c.requires.fine.0 _ c.requires.indexed
    c.if-sorts-ge-SORT_NUMBERS.false c.if-entries-row-gt-MAX_ENTRIES.false _ c.append_row.ensures.words _ c.append_row.ensures.index _
    c.append_row.ensures.counts
