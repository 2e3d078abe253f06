pub mod CbcMac
