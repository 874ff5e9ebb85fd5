-- Opens every definition of the machine at once: a proof by computing says `unfolding everything`.

unfoldable pub everything : Unit {0}
unfolding Rattle.segment.specs.Form.in_half Rattle.segment.specs.Form.form_of Rattle.segments.specs.Table.walk Rattle.segments.specs.Table.soundb Rattle.segments.specs.Table.insert Rattle.segments.specs.Table.remove Rattle.segments.specs.Table.heldb Rattle.segments.specs.Table.position Rattle.segments.specs.Table.place_of Rattle.segment_search.specs.Search.first_over Rattle.segment_search.specs.Search.count Rattle.segment_search.specs.Search.tries Rattle.segment_search.specs.Search.search Rattle.segments.specs.Calls.new_call Rattle.segments.specs.Calls.lowest Rattle.segments.specs.Calls.reserve_call Rattle.segments.specs.Calls.checked_by Rattle.segments.specs.Calls.overlapsb Rattle.segments.specs.Calls.mark_call Rattle.segments.specs.Calls.release_call Rattle.segments.specs.Calls.insideb Rattle.segments.specs.Calls.split_point Rattle.segments.specs.Calls.split_call Rattle.segments.specs.Calls.list_call Rattle.address.specs.Bits.bit Rattle.address.specs.Canonical.canonical Rattle.address.specs.Flags.good_flags Rattle.address.specs.Flags.read_only Rattle.laws.specs.Lists.part Rattle.laws.specs.Lists.put_part Rattle.laws.specs.Lists.pad Rattle.laws.specs.Lists.keep Rattle.laws.specs.Lists.all Rattle.laws.specs.Lists.any Rattle.laws.specs.Lists.each Rattle.laws.specs.Lists.up_from Rattle.model.specs.Machine.order_of Rattle.model.specs.Machine.with_order Rattle.model.specs.Machine.mapped_of Rattle.model.specs.Machine.with_mapped Rattle.model.specs.Machine.empty_machine Rattle.model.specs.Answers.listing Rattle.model.specs.Answers.not_listed Rattle.model.specs.Answers.first_of Rattle.model.specs.Lookup.first_slot Rattle.model.specs.Lookup.first_row Rattle.laws.specs.Lists.count Rattle.model.specs.Lookup.region_for Rattle.model.specs.Lookup.any_region_for Rattle.model.specs.Lookup.free_slot Rattle.model.specs.Lookup.free_slots Rattle.model.specs.Lookup.free_entry Rattle.model.specs.Lookup.free_entries Rattle.model.specs.Lookup.covered_from Rattle.model.specs.Lookup.covered Rattle.model.specs.Paging.translate Rattle.model.specs.Paging.map_page Rattle.model.specs.Paging.unmap_page Rattle.model.specs.Paging.remap_where Rattle.model.specs.Paging.unmap_from Rattle.model.specs.Backing.in_some Rattle.model.specs.Backing.free_frames Rattle.model.specs.Backing.pool_of Rattle.model.specs.Backing.with_backings Rattle.model.specs.Backing.run_from Rattle.model.specs.Backing.lowest_run Rattle.model.specs.Backing.claim Rattle.model.specs.Backing.hold Rattle.model.specs.Backing.let_go Rattle.model.specs.Backing.entry_for Rattle.model.specs.Backing.backing Rattle.model.specs.Backing.add_entry Rattle.model.specs.Backing.frame_bytes Rattle.model.specs.Backing.put_frame Rattle.model.specs.Backing.zero_frames Rattle.model.specs.Segments.segments_in Rattle.model.specs.Segments.segments_of Rattle.model.specs.Segments.manager_of Rattle.model.specs.Segments.reserved Rattle.model.specs.Segments.lowest_start Rattle.model.specs.Create.create_refusals Rattle.model.specs.Create.add_region Rattle.model.specs.Create.with_run Rattle.model.specs.Create.core_create Rattle.model.specs.Fault.private_way Rattle.model.specs.Fault.shared_way Rattle.model.specs.Fault.fault_way Rattle.model.specs.Fault.read_fails Rattle.model.specs.Fault.way_refusals Rattle.model.specs.Fault.file_page Rattle.model.specs.Fault.fill_of Rattle.model.specs.Fault.re_entry Rattle.model.specs.Fault.own_frame Rattle.model.specs.Fault.go_way Rattle.model.specs.Fault.handle_fault Rattle.model.specs.Populate.lowest_above Rattle.model.specs.Populate.next_start Rattle.model.specs.Populate.populate_page Rattle.model.specs.Populate.every_page Rattle.model.specs.Populate.visit Rattle.model.specs.Populate.nothing_to_do Rattle.model.specs.Populate.upper_last Rattle.model.specs.Populate.core_populate Rattle.model.specs.Populate.eagerly Rattle.model.specs.Populate.eagerly_each Rattle.model.specs.Populate.core_populate_eager_copies Rattle.model.specs.Carve.low_part Rattle.model.specs.Carve.high_part Rattle.model.specs.Carve.give_entries Rattle.model.specs.Carve.split_at Rattle.model.specs.Carve.split_bound Rattle.model.specs.Carve.split_at_bounds Rattle.model.specs.Carve.slots_needed Rattle.model.specs.Carve.split_refusals Rattle.model.specs.Carve.carve_each Rattle.model.specs.Carve.carve_splits Rattle.model.specs.Carve.inside_of Rattle.model.specs.Carve.carve_answer Rattle.model.specs.Carve.core_carve Rattle.model.specs.Clone.in_order Rattle.model.specs.Clone.single_pages Rattle.model.specs.Clone.range_pages Rattle.model.specs.Clone.backed_pages Rattle.model.specs.Clone.entries_needed Rattle.model.specs.Clone.clone_refusals Rattle.model.specs.Clone.demote Rattle.model.specs.Clone.share_entry Rattle.model.specs.Clone.share_range Rattle.model.specs.Clone.share_into Rattle.model.specs.Clone.copy_entry Rattle.model.specs.Clone.copy_into Rattle.model.specs.Clone.core_clone_region Rattle.model.specs.Clone.clone_each Rattle.model.specs.Clone.core_clone Rattle.model.specs.Protect.page_flags Rattle.model.specs.Protect.set_protection Rattle.model.specs.Remove.frames_of Rattle.model.specs.Remove.drop_region Rattle.model.specs.Remove.remove_region Rattle.model.specs.Remove.clear_regions Rattle.model.specs.Remove.pin_stands Rattle.model.specs.Remove.close_process Rattle.model.specs.Pins.pin_region Rattle.model.specs.Pins.unpin_region Rattle.model.specs.Access.loaded Rattle.model.specs.Access.stored Rattle.laws.specs.Tests.all_rows Rattle.laws.specs.Tests.all_pairs Rattle.model.specs.Sound.entry_holds Rattle.model.specs.Sound.range_holds Rattle.model.specs.Sound.holds Rattle.model.specs.Sound.holders_of Rattle.model.specs.Sound.homes Rattle.model.specs.SoundTest.apartb Rattle.model.specs.SoundTest.r1b Rattle.model.specs.SoundTest.ends_before Rattle.model.specs.SoundTest.backing_apart Rattle.model.specs.SoundTest.r2b Rattle.model.specs.SoundTest.counted Rattle.model.specs.SoundTest.r3b Rattle.model.specs.SoundTest.homedb Rattle.model.specs.SoundTest.r4b Rattle.model.specs.SoundTest.flaggedb Rattle.model.specs.SoundTest.flags_fit Rattle.model.specs.SoundTest.r5b Rattle.model.specs.SoundTest.sizedb Rattle.model.specs.SoundTest.file_fits Rattle.model.specs.SoundTest.empty_process Rattle.model.specs.SoundTest.process_fits Rattle.model.specs.SoundTest.listedb Rattle.model.specs.SoundTest.pinned_if_detached Rattle.model.specs.SoundTest.orderedb Rattle.model.specs.SoundTest.pagedb Rattle.model.specs.SoundTest.limitsb Rattle.model.specs.SoundTest.region_fits Rattle.model.specs.SoundTest.enteredb Rattle.model.specs.SoundTest.entry_fits Rattle.model.specs.SoundTest.other_page Rattle.model.specs.SoundTest.alike Rattle.model.specs.SoundTest.r6b Rattle.model.specs.SoundTest.soundb Rattle.model.specs.Refusals.bad_lengths Rattle.model.specs.Refusals.start_refusals Rattle.model.specs.Refusals.open_refusals Rattle.model.specs.Refusals.close_refusals Rattle.model.specs.Refusals.process_refusals Rattle.model.specs.Refusals.region_refusals Rattle.model.specs.Refusals.carve_refusals Rattle.model.specs.Refusals.populate_refusals Rattle.model.specs.Refusals.clone_region_refusals Rattle.model.specs.Refusals.clone_process_refusals Rattle.model.specs.Refusals.protect_refusals Rattle.model.specs.Refusals.pin_refusals Rattle.model.specs.Refusals.unpin_refusals Rattle.model.specs.Refusals.access_refusals Rattle.model.specs.Calls.guarded Rattle.model.specs.Calls.start Rattle.model.specs.Calls.sound Rattle.model.specs.Calls.core_open Rattle.model.specs.Calls.open_process Rattle.model.specs.Calls.close Rattle.model.specs.Calls.create Rattle.model.specs.Calls.create_private Rattle.model.specs.Calls.create_file Rattle.model.specs.Calls.create_shared Rattle.model.specs.Calls.remove Rattle.model.specs.Calls.clear Rattle.model.specs.Calls.carve Rattle.model.specs.Calls.covers Rattle.model.specs.Calls.region Rattle.model.specs.Calls.regions Rattle.model.specs.Calls.fault Rattle.model.specs.Calls.populate Rattle.model.specs.Calls.eager Rattle.model.specs.Calls.clone_region Rattle.model.specs.Calls.clone Rattle.model.specs.Calls.protect Rattle.model.specs.Calls.pin Rattle.model.specs.Calls.unpin Rattle.model.specs.Calls.load Rattle.model.specs.Calls.store Rattle.model.specs.Run.call Rattle.model.specs.Run.step Rattle.model.specs.Run.run Rattle.model.specs.PointTable.spans_of Rattle.model.specs.PointTable.look Rattle.model.specs.PointTable.lists Rattle.model.specs.PointTable.lists_not Rattle.model.specs.PointTable.manager_row Rattle.model.specs.PointTable.same_list Rattle.model.specs.PointTable.same_reply Rattle.model.specs.PointTable.holdsb
everything = tt
