pub mod HeadLaws
pub mod StateLaws
pub mod FinishLaws
pub mod InCalls
