pub mod Suppose
