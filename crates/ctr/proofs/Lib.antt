pub mod CtrLaws
